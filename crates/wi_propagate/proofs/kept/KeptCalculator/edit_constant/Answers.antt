use Rattle.wi_propagate.proofs.Words.{◌≡◌, ◌∙◌, ℕ, Option, Ok, ap, sym, subst, if◌then◌else◌, keys_of, Stored, applied, in_cone, AreEdgesOf, sheet_after, Generations, IsHeadOf, KeptSheet, generation_in, AreKeptRight, AreCarriedCones, kept_sheet, flushed, AreKeptUp, ArePlans, rules}
use Rattle.wi_propagate.proofs.Editing.{edges_stay, refused_edit, refused_same, right_after_edit, right_unnamed, edit_flushed, edit_keeps_up}
use Rattle.wi_propagate.proofs.HeadSteps.{head_over}
use Rattle.wi_propagate.proofs.KeptCones.{carried_over}
use Rattle.wi_propagate.proofs.StampSteps.{flushed_same, kept_up_more}
use Rattle.wi_propagate.proofs.kept.KeptCalculator.edit_constant.Goals as goal

pub invariant_of-self-in-Ok : goal.invariant_of-self-in-Ok
invariant_of-self-in-Ok c =
    let i = c.self.inside in
    let h = c.self.invariant in
    let ch = c.args.changes.now in
    let new = c.apply_slice.new.self in
    let mid = c.mark_dirty.new.self in
    let last = c.stamp.new.self in
    let accepted : applied i.store ch ≡ Ok new = c.in-Ok.ensures in
    let reads = subst (λ (k : KeptSheet). AreEdgesOf i.graph.now k.stored.sheet → AreEdgesOf i.graph.now (sheet_after k.stored.sheet ch)) (sym c.self.view_is) (c.requires.reads i.graph.now) in
    let after = edges_stay i.graph.now i.store new ch (reads h.1) accepted in
    let kept_head = head_over i.graph.now i.store.sheet new.sheet i.generations.head i.generations.cone h.1 after h.5.stamped.head in
    let head_is = subst (λ (o : Option ℕ). IsHeadOf new.sheet o last.cone) (sym (c.stamp.ensures.head.0 ∙ c.in_ok-mark_dirty.ensures.head.0)) (subst (IsHeadOf new.sheet i.generations.head) (sym (c.stamp.ensures.head.1 ∙ c.in_ok-mark_dirty.ensures.head.1)) kept_head) in
    let flushed_is = edit_flushed i.store new ch i.generations mid last c.args.cells.now c.edits-number.result accepted c.requires.cells c.edits-number.ensures c.in_ok-mark_dirty.ensures.edited_at c.stamp.ensures.edited_at h.5 in (
      h.0,
      after,
      h.2,
      right_after_edit i.store new ch c.edits-number.result (flushed i.store.sheet i.generations.edited_at) (flushed new.sheet last.edited_at) _ i.meter i.meter accepted flushed_is c.edits-number.ensures h.3,
      carried_over i.graph.now i.store.sheet new.sheet i.carried h.1 after h.4,
      edit_keeps_up i.store new ch i.generations mid last c.args.cells.now c.edits-number.result accepted c.requires.cells c.edits-number.ensures c.in_ok-mark_dirty.ensures.edited_at c.stamp.ensures.edited_at h.5
          c.in_ok-mark_dirty.ensures.stays (c.in_ok-mark_dirty.ensures.dirty i.store.sheet h.1) (λ d. ap (λ (ns : Generations). generation_in ns d) (c.stamp.ensures.valid_since ∙ c.in_ok-mark_dirty.ensures.valid_since)) c.stamp.ensures.dirty head_is,
      c.forget.ensures new.sheet,
    )

pub returns-in-Ok-clause-edited : goal.returns-in-Ok-clause-edited
returns-in-Ok-clause-edited c =
    let i = c.self.inside in
    let ch = c.args.changes.now in
    let new = c.apply_slice.new.self in
    record {
      same_counts = ap (λ (k : KeptSheet). k.counts) c.self.view_is;
      same_values = ap (λ (k : KeptSheet). k.values) c.self.view_is;
      generations = subst
          (λ (k : KeptSheet). (d : ℕ) → generation_in (flushed new.sheet c.stamp.new.self.edited_at) d ≡ (if in_cone k.stored.sheet (keys_of ch) d then new.edits else generation_in k.generations d)) c.self.view_is
          (λ d. edit_flushed i.store new ch i.generations c.mark_dirty.new.self c.stamp.new.self c.args.cells.now c.edits-number.result c.in-Ok.ensures c.requires.cells c.edits-number.ensures c.in_ok-mark_dirty.ensures.edited_at c.stamp.ensures.edited_at c.self.invariant.5 d
          ∙ ap (λ (n : ℕ). if in_cone i.store.sheet (keys_of ch) d then n else generation_in (flushed i.store.sheet i.generations.edited_at) d) c.edits-number.ensures);
    }

pub stamp-requires : goal.stamp-requires
stamp-requires c = c.in_ok-mark_dirty.ensures.there

pub invariant_of-self : goal.invariant_of-self
invariant_of-self c =
    let i = c.self.inside in
    let h = c.self.invariant in (
      h.0,
      h.1,
      h.2,
      right_unnamed i.store i.generations c.mark_dirty.new.self c.mark_dirty.ensures.edited_at _ i.meter h.3,
      h.4,
      kept_up_more i.store.sheet i.generations c.mark_dirty.new.self i.store.edits c.mark_dirty.ensures.edited_at c.mark_dirty.ensures.valid_since c.mark_dirty.ensures.head c.mark_dirty.ensures.stays h.5,
      h.6,
    )

pub returns-in_err-mark_dirty-clause-edited : goal.returns-in_err-mark_dirty-clause-edited
returns-in_err-mark_dirty-clause-edited c =
    let i = c.self.inside in
    refused_edit c.args.self.now _ _ _ (search rules) (ap (λ (k : KeptSheet). k.counts) c.self.view_is) (ap (λ (k : KeptSheet). k.values) c.self.view_is)
    (λ d. flushed_same i.store.sheet i.generations.edited_at c.mark_dirty.new.self.edited_at c.mark_dirty.ensures.edited_at d ∙ ap (λ (k : KeptSheet). generation_in k.generations d) c.self.view_is)

pub invariant_of-self-in-Err : goal.invariant_of-self-in-Err
invariant_of-self-in-Err c =
    let i = c.self.inside in
    let h = c.self.invariant in
    let store_is : c.apply_slice.new.self ≡ i.store = refused_same (applied i.store c.args.changes.now) c.in-Err.fault i.store c.apply_slice.new.self c.in-Err.ensures in (
      h.0,
      subst (λ (x : Stored). AreEdgesOf i.graph.now x.sheet) (sym store_is) h.1,
      h.2,
      subst (λ (x : Stored). AreKeptRight (kept_sheet x (flushed x.sheet c.mark_dirty.new.self.edited_at) i.carried i.meter)) (sym store_is) (right_unnamed i.store i.generations c.mark_dirty.new.self c.mark_dirty.ensures.edited_at _ i.meter h.3),
      subst (λ (x : Stored). AreCarriedCones x.sheet i.carried) (sym store_is) h.4,
      subst (λ (x : Stored). AreKeptUp x.sheet x.edits c.mark_dirty.new.self) (sym store_is) (kept_up_more i.store.sheet i.generations c.mark_dirty.new.self i.store.edits c.mark_dirty.ensures.edited_at c.mark_dirty.ensures.valid_since c.mark_dirty.ensures.head c.mark_dirty.ensures.stays h.5),
      subst (λ (x : Stored). ArePlans x.sheet i.plans) (sym store_is) h.6,
    )

pub returns-in-Err-clause-edited : goal.returns-in-Err-clause-edited
returns-in-Err-clause-edited c =
    let i = c.self.inside in
    let store_is : c.apply_slice.new.self ≡ i.store = refused_same (applied i.store c.args.changes.now) c.in-Err.fault i.store c.apply_slice.new.self c.in-Err.ensures in
    let stays : (d : ℕ) → generation_in (flushed c.apply_slice.new.self.sheet c.mark_dirty.new.self.edited_at) d ≡ generation_in c.args.self.now.generations d = λ d.
    ap (λ (x : Stored). generation_in (flushed x.sheet c.mark_dirty.new.self.edited_at) d) store_is
    ∙ flushed_same i.store.sheet i.generations.edited_at c.mark_dirty.new.self.edited_at c.mark_dirty.ensures.edited_at d
    ∙ ap (λ (k : KeptSheet). generation_in k.generations d) c.self.view_is in
    record {
      same_counts = ap (λ (k : KeptSheet). k.counts) c.self.view_is;
      same_values = ap (λ (k : KeptSheet). k.values) c.self.view_is;
      generations = search stays;
    }
