use Rattle.wi_propagate.proofs.Words.{◌≡◌, ◌∙◌, ◌⊎◌, ℕ, true, List, Option, is_one_of, IsUnread, Generations, HasGeneration, IsHeadOf, Some, None, Ok, IfSome, ap, sym, subst, if◌then◌else◌, keys_of, unwrap_or, Stored, applied, in_cone, AreEdgesOf, Staging, staging, edges_after, KeptValues, KeptSheet, generation_in, AreKeptRight, AreCarriedCones, kept_sheet, values_in, flushed, AreKeptUp, ArePlans, rules}
use Rattle.wi_propagate.proofs.Editing.{edges_applied, refused_edit, refused_same, right_after_edit, right_unnamed, edit_flushed, edit_keeps_up}
use Rattle.wi_propagate.proofs.StampSteps.{flushed_same, kept_up_more}
use Rattle.wi_propagate.proofs.kept.KeptCalculator.edit_cells.Goals as goal

pub invariant_of-self-in-Ok : goal.invariant_of-self-in-Ok
invariant_of-self-in-Ok c =
    let i = c.self.inside in
    let h = c.self.invariant in
    let ch = c.args.changes.now in
    let new = c.apply_slice.new.self in
    let staged_is : c.stage.new.self ≡ staging i.graph.now (Some (edges_after i.graph.now ch)) = c.in_ok-stage.ensures.ok in
    let graph_is : c.commit.new.self ≡ staging (edges_after i.graph.now ch) None = c.commit.ensures ∙ ap (λ (x : Staging). staging (unwrap_or x.staged x.now) None) staged_is in
    let accepted : applied i.store ch ≡ Ok new = c.in-Ok.ensures in
    let edges = edges_applied i.graph.now i.store new ch h.1 accepted in
    let right = subst (λ (v : KeptValues). AreKeptRight (record { stored = i.store; generations = flushed i.store.sheet i.generations.edited_at; values = v; counts = i.meter })) (sym c.carry_over_edit.ensures.values) h.3 in
    let still : (d : ℕ) → generation_in c.keep_over_edit.new.self.edited_at d ≡ generation_in i.generations.edited_at d = λ d.
    ap (λ (ns : Generations). generation_in ns d) c.keep_over_edit.ensures.edited_at ∙ c.in_ok-mark_dirty.ensures.edited_at d in
    let before = subst (λ (x : Staging). AreEdgesOf x.now i.store.sheet) (sym staged_is) h.1 in
    let after = subst (λ (x : Staging). IfSome x.staged (λ es. AreEdgesOf es new.sheet)) (sym staged_is) edges in
    let kept_head = c.keep_over_edit.ensures.head i.store.sheet new.sheet before after (subst (λ (o : Option ℕ). IsHeadOf i.store.sheet o c.mark_dirty.new.self.cone) (sym c.in_ok-mark_dirty.ensures.head.0) (subst (IsHeadOf i.store.sheet i.generations.head) (sym c.in_ok-mark_dirty.ensures.head.1) h.5.stamped.head)) in
    let head_is = subst (λ (o : Option ℕ). IsHeadOf new.sheet o c.stamp.new.self.cone) (sym c.stamp.ensures.head.0) (subst (IsHeadOf new.sheet c.keep_over_edit.new.self.head) (sym c.stamp.ensures.head.1) kept_head) in
    let flushed_is = edit_flushed i.store new ch i.generations c.keep_over_edit.new.self c.stamp.new.self c.args.cells.now c.edits.result accepted c.requires c.edits.ensures still c.stamp.ensures.edited_at h.5 in (
      c.carry_over_edit.ensures.there h.0,
      subst (λ (x : Staging). AreEdgesOf x.now new.sheet) (sym graph_is) edges,
      ap (λ (x : Staging). x.staged) graph_is,
      right_after_edit i.store new ch c.edits.result (flushed i.store.sheet i.generations.edited_at) (flushed new.sheet c.stamp.new.self.edited_at) _ i.meter i.meter accepted flushed_is c.edits.ensures right,
      c.carry_over_edit.ensures.cones i.store.sheet new.sheet before after h.4,
      edit_keeps_up i.store new ch i.generations c.keep_over_edit.new.self c.stamp.new.self c.args.cells.now c.edits.result accepted c.requires c.edits.ensures still c.stamp.ensures.edited_at h.5
          (λ x m. subst (λ (xs : List ℕ). is_one_of xs x ≡ true) (sym c.keep_over_edit.ensures.dirty) (c.in_ok-mark_dirty.ensures.stays x m))
          (λ x m. subst (λ (xs : List ℕ). (is_one_of xs x ≡ true) ⊎ IsUnread i.store.sheet x) (sym c.keep_over_edit.ensures.dirty) (c.in_ok-mark_dirty.ensures.dirty i.store.sheet h.1 x m))
          (λ d. ap (λ (ns : Generations). generation_in ns d) c.stamp.ensures.valid_since ∙ c.keep_over_edit.ensures.valid_since d ∙ ap (λ (ns : Generations). generation_in ns d) c.in_ok-mark_dirty.ensures.valid_since) c.stamp.ensures.dirty head_is,
      c.forget.ensures new.sheet,
    )

pub returns-in-Ok-clause-edited : goal.returns-in-Ok-clause-edited
returns-in-Ok-clause-edited c =
    let i = c.self.inside in
    let ch = c.args.changes.now in
    let new = c.apply_slice.new.self in
    let still : (d : ℕ) → generation_in c.keep_over_edit.new.self.edited_at d ≡ generation_in i.generations.edited_at d = λ d.
    ap (λ (ns : Generations). generation_in ns d) c.keep_over_edit.ensures.edited_at ∙ c.in_ok-mark_dirty.ensures.edited_at d in
    let values_are : values_in c.carry_over_edit.new.carried ≡ c.args.self.now.values = c.carry_over_edit.ensures.values ∙ ap (λ (k : KeptSheet). k.values) c.self.view_is in
    record {
      same_counts = ap (λ (k : KeptSheet). k.counts) c.self.view_is;
      same_values = search values_are;
      generations = subst
          (λ (k : KeptSheet). (d : ℕ) → generation_in (flushed new.sheet c.stamp.new.self.edited_at) d ≡ (if in_cone k.stored.sheet (keys_of ch) d then new.edits else generation_in k.generations d)) c.self.view_is
          (λ d. edit_flushed i.store new ch i.generations c.keep_over_edit.new.self c.stamp.new.self c.args.cells.now c.edits.result c.in-Ok.ensures c.requires c.edits.ensures still c.stamp.ensures.edited_at c.self.invariant.5 d
          ∙ ap (λ (n : ℕ). if in_cone i.store.sheet (keys_of ch) d then n else generation_in (flushed i.store.sheet i.generations.edited_at) d) c.edits.ensures);
    }

pub stamp-requires : goal.stamp-requires
stamp-requires c = λ d m. subst (λ (ns : Generations). HasGeneration ns d) (sym c.keep_over_edit.ensures.edited_at) (c.in_ok-mark_dirty.ensures.there d m)

pub invariant_of-self : goal.invariant_of-self
invariant_of-self c =
    let i = c.self.inside in
    let h = c.self.invariant in (
      h.0,
      h.1,
      h.2,
      right_unnamed i.store i.generations c.mark_dirty.new.self c.mark_dirty.ensures.edited_at _ i.meter h.3,
      h.4,
      kept_up_more i.store.sheet i.generations c.mark_dirty.new.self i.store.edits c.mark_dirty.ensures.edited_at c.mark_dirty.ensures.valid_since c.mark_dirty.ensures.head c.mark_dirty.ensures.stays h.5,
      h.6,
    )

pub returns-in_err-mark_dirty-clause-edited : goal.returns-in_err-mark_dirty-clause-edited
returns-in_err-mark_dirty-clause-edited c =
    let i = c.self.inside in
    refused_edit c.args.self.now _ _ _ (search rules) (ap (λ (k : KeptSheet). k.counts) c.self.view_is) (ap (λ (k : KeptSheet). k.values) c.self.view_is)
    (λ d. flushed_same i.store.sheet i.generations.edited_at c.mark_dirty.new.self.edited_at c.mark_dirty.ensures.edited_at d ∙ ap (λ (k : KeptSheet). generation_in k.generations d) c.self.view_is)

pub invariant_of-self-in_err-stage : goal.invariant_of-self-in_err-stage
invariant_of-self-in_err-stage c =
    let i = c.self.inside in
    let h = c.self.invariant in (
      h.0,
      subst (λ (x : Staging). AreEdgesOf x.now i.store.sheet) (sym c.in_err-stage.ensures.err) h.1,
      ap (λ (x : Staging). x.staged) c.in_err-stage.ensures.err ∙ h.2,
      right_unnamed i.store i.generations c.mark_dirty.new.self c.mark_dirty.ensures.edited_at _ i.meter h.3,
      h.4,
      kept_up_more i.store.sheet i.generations c.mark_dirty.new.self i.store.edits c.mark_dirty.ensures.edited_at c.mark_dirty.ensures.valid_since c.mark_dirty.ensures.head c.mark_dirty.ensures.stays h.5,
      h.6,
    )

pub returns-in_err-stage-clause-edited : goal.returns-in_err-stage-clause-edited
returns-in_err-stage-clause-edited c =
    let i = c.self.inside in
    refused_edit c.args.self.now _ _ _ (search rules) (ap (λ (k : KeptSheet). k.counts) c.self.view_is) (ap (λ (k : KeptSheet). k.values) c.self.view_is)
    (λ d. flushed_same i.store.sheet i.generations.edited_at c.mark_dirty.new.self.edited_at c.mark_dirty.ensures.edited_at d ∙ ap (λ (k : KeptSheet). generation_in k.generations d) c.self.view_is)

pub invariant_of-self-in-Err : goal.invariant_of-self-in-Err
invariant_of-self-in-Err c =
    let i = c.self.inside in
    let h = c.self.invariant in
    let staged_is : c.stage.new.self ≡ staging i.graph.now (Some (edges_after i.graph.now c.args.changes.now)) = c.in_ok-stage.ensures.ok in
    let graph_is : c.rollback.new.self ≡ staging i.graph.now None = c.rollback.ensures ∙ ap (λ (x : Staging). staging x.now None) staged_is in
    let store_is : c.apply_slice.new.self ≡ i.store = refused_same (applied i.store c.args.changes.now) c.in-Err.fault i.store c.apply_slice.new.self c.in-Err.ensures in (
      h.0,
      subst (λ (x : Staging). AreEdgesOf x.now c.apply_slice.new.self.sheet) (sym graph_is) (subst (λ (x : Stored). AreEdgesOf i.graph.now x.sheet) (sym store_is) h.1),
      ap (λ (x : Staging). x.staged) graph_is,
      subst (λ (x : Stored). AreKeptRight (kept_sheet x (flushed x.sheet c.mark_dirty.new.self.edited_at) i.carried i.meter)) (sym store_is) (right_unnamed i.store i.generations c.mark_dirty.new.self c.mark_dirty.ensures.edited_at _ i.meter h.3),
      subst (λ (x : Stored). AreCarriedCones x.sheet i.carried) (sym store_is) h.4,
      subst (λ (x : Stored). AreKeptUp x.sheet x.edits c.mark_dirty.new.self) (sym store_is) (kept_up_more i.store.sheet i.generations c.mark_dirty.new.self i.store.edits c.mark_dirty.ensures.edited_at c.mark_dirty.ensures.valid_since c.mark_dirty.ensures.head c.mark_dirty.ensures.stays h.5),
      subst (λ (x : Stored). ArePlans x.sheet i.plans) (sym store_is) h.6,
    )

pub returns-in-Err-clause-edited : goal.returns-in-Err-clause-edited
returns-in-Err-clause-edited c =
    let i = c.self.inside in
    let store_is : c.apply_slice.new.self ≡ i.store = refused_same (applied i.store c.args.changes.now) c.in-Err.fault i.store c.apply_slice.new.self c.in-Err.ensures in
    let stays : (d : ℕ) → generation_in (flushed c.apply_slice.new.self.sheet c.mark_dirty.new.self.edited_at) d ≡ generation_in c.args.self.now.generations d = λ d.
    ap (λ (x : Stored). generation_in (flushed x.sheet c.mark_dirty.new.self.edited_at) d) store_is
    ∙ flushed_same i.store.sheet i.generations.edited_at c.mark_dirty.new.self.edited_at c.mark_dirty.ensures.edited_at d
    ∙ ap (λ (k : KeptSheet). generation_in k.generations d) c.self.view_is in
    record {
      same_counts = ap (λ (k : KeptSheet). k.counts) c.self.view_is;
      same_values = ap (λ (k : KeptSheet). k.values) c.self.view_is;
      generations = search stays;
    }
