use Rattle.wi_reports.proofs.table.push_entry_at.Goals as goal

pub push_entry-requires : goal.push_entry-requires
push_entry-requires g c = c.requires

pub returns-clause-text : goal.returns-clause-text
returns-clause-text g c = c.push_entry.ensures.text

pub returns-clause-cost : goal.returns-clause-cost
returns-clause-cost g c = c.push_entry.ensures.cost
