use Rattle.wi_tiles.proofs.Words.{arith, ◌/◌, ◌+◌, column_of}
use Rattle.wi_tiles.proofs.BandLemmas.{part_rises, part_low, part_high, part_same, low_high}
use Rattle.wi_tiles.proofs.band.tiles_in.Goals as goal

pub returns-clause-tiles : goal.returns-clause-tiles
returns-clause-tiles g c = record {
  rises = part_rises c.args.parts.now c.place_from-low.result c.place_from-high.result c.requires;
  low = part_low c.args.parts.now c.place_from-low.result c.place_from-high.result (column_of c.args.area.first / 4) (λ i l q. omega (arith, c.place_from-low.ensures.above i l q, c.column.ensures.value));
  high = part_high c.args.parts.now c.place_from-low.result c.place_from-high.result (column_of c.args.area.last / 4) (λ i l. omega (arith, c.place_from-high.ensures.below i l, c.column-2.ensures.value));
}

pub returns-clause-same : goal.returns-clause-same
returns-clause-same g c = λ k l u. part_same c.args.parts.now c.place_from-low.result c.place_from-high.result k
    (low_high c.args.parts.now c.place_from-low.result c.place_from-high.result (column_of c.args.area.first / 4) (column_of c.args.area.last / 4 + 1) (omega (arith, l, u)) c.place_from-low.ensures.bound (λ i m. omega (arith, c.place_from-low.ensures.below i m, c.column.ensures.value)) (λ i m q. omega (arith, c.place_from-high.ensures.above i m q, c.column-2.ensures.value)))
    (λ i m. omega (arith, c.place_from-low.ensures.below i m, c.column.ensures.value, l))
    (λ i m q. omega (arith, c.place_from-high.ensures.above i m q, c.column-2.ensures.value, u))
