use Rattle.wi_parser.proofs.Words.{◌≡◌, false, rules, is_some, after_equals, content_read}
use Rattle.wi_parser.proofs.Answered.{body_found, read_formula, read_constant}
use Rattle.wi_parser.proofs.content.Content.read.Goals as goal

pub returns-in-Some : goal.returns-in-Some
unfolding content_read
returns-in-Some c =
    let found : false ≡ is_some (after_equals c.args.text.now) = body_found c.args.text.now _ _ c.front_of-front.ensures c.if-is_some.ensures in
    search (rules, found)

pub returns-then-is_some : goal.returns-then-is_some
returns-then-is_some c =
    let found = body_found c.args.text.now _ _ c.front_of-front.ensures c.if-is_some.ensures in
    read_formula _ _ found c.in_ok-parse_body.ensures

pub returns : goal.returns
returns c =
    let found = body_found c.args.text.now _ _ c.front_of-front.ensures c.if-is_some.ensures in
    read_constant _ _ found c.in_default.ensures c.in_ok-imported_value.ensures.value
