use Rattle.wi_cli.proofs.ServeLemmas.{served_alone, served_with}
use Rattle.wi_cli.proofs.serve.execute.Goals as goal

pub returns-in-Set : goal.returns-in-Set
returns-in-Set g c = served_alone _ _ _ _ _ _ c.in-Set.is c.set.ensures.step tt

pub returns-in-Clear : goal.returns-in-Clear
returns-in-Clear g c = served_alone _ _ _ _ _ _ c.in-Clear.is c.clear.ensures.step tt

pub returns-in-Fill : goal.returns-in-Fill
returns-in-Fill g c = served_alone _ _ _ _ _ _ c.in-Fill.is c.fill.ensures.step tt

pub returns-in-Scenario : goal.returns-in-Scenario
returns-in-Scenario g c = served_alone _ _ _ _ _ _ c.in-Scenario.is c.scenario_set.ensures.step tt

pub returns-in-Drop : goal.returns-in-Drop
returns-in-Drop g c = served_alone _ _ _ _ _ _ c.in-Drop.is c.scenario_drop.ensures.step c.scenario_drop.ensures.no_memory

pub returns-in-Base : goal.returns-in-Base
returns-in-Base g c = served_alone _ _ _ _ _ _ c.in-Base.is c.scenario_base.ensures.step tt

pub returns-in-Use : goal.returns-in-Use
returns-in-Use g c = served_alone _ _ _ _ _ _ c.in-Use.is c.use_scenario.ensures.edit.step tt

pub returns-in-As : goal.returns-in-As
returns-in-As g c = served_alone _ _ _ _ _ _ c.in-As.is c.session.ensures.step c.session.ensures.no_memory

pub returns-in-Show : goal.returns-in-Show
returns-in-Show g c = served_with _ _ _ _ _ _ _ c.in-Show.is c.show.ensures.step tt

pub returns-in-Export : goal.returns-in-Export
returns-in-Export g c = served_with _ _ _ _ _ _ _ c.in-Export.is c.export.ensures.step tt

pub returns-in-Changes : goal.returns-in-Changes
returns-in-Changes g c = served_with _ _ _ _ _ _ _ c.in-Changes.is c.changes.ensures.step tt

pub returns-in-Compare : goal.returns-in-Compare
returns-in-Compare g c = served_with _ _ _ _ _ _ _ c.in-Compare.is c.compare.ensures.step tt

pub returns-in-Table : goal.returns-in-Table
returns-in-Table g c = served_with _ _ _ _ _ _ _ c.in-Table.is c.table.ensures.step tt

pub returns-in-TableOfTwo : goal.returns-in-TableOfTwo
returns-in-TableOfTwo g c = served_with _ _ _ _ _ _ _ c.in-TableOfTwo.is c.table-in-TableOfTwo.ensures.step tt

pub returns-in-Formula : goal.returns-in-Formula
returns-in-Formula g c = served_with _ _ _ _ _ _ _ c.in-Formula.is c.formula_text.ensures tt
