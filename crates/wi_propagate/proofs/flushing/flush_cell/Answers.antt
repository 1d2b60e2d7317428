use Rattle.wi_propagate.proofs.Words.{◌∙◌, ℕ, [], Option, ap, cond, sym, subst, max, keys_of, is_one_of, Generations, AreDirty, HeadedNumbers, IsHeadOf, generation_in, stamped_in}
use Rattle.wi_propagate.proofs.FlushingSteps.{dirty_renumbered}
use Rattle.wi_propagate.proofs.HeadSteps.{flushed_alone, flushed_by_head, headed_by}
use Rattle.wi_propagate.proofs.flushing.flush_cell.Goals as goal
use Rattle.wi_propagate.proofs.flushing.flush_cell.Goals.{then-not-raise_cone+in_ok-cone+in_ok-lift_cone, else-not-raise_cone}

pub returns-clause-dirty : goal.returns-clause-dirty
returns-clause-dirty c = λ s a.
    let edited_at = c.args.edited_at.now.entries in
    let dirty = keys_of c.args.dirty.now.entries in
    let raised = c.raise_cone.new.self in
    let now : AreDirty s (generation_in edited_at) [] (stamped_in edited_at c.if-not-raise_cone.valid_since.numbers) = elim c.if-not-raise_cone.branch [
      | then-not-raise_cone+in_ok-cone+in_ok-lift_cone w ↦
          subst (λ (v : HeadedNumbers). AreDirty s (generation_in edited_at) [] (stamped_in edited_at v.numbers)) (sym w.valid_since-is)
          (flushed_alone s edited_at raised.numbers w.lift_cone.new.self.numbers dirty c.args.cell c.number_at-number.result c.requires.only c.number_at-number.ensures
          (λ d. w.in_ok-lift_cone.ensures.numbers d ∙ ap (λ b. cond b (max (generation_in raised.numbers d) c.number_at-number.result) (generation_in raised.numbers d)) (w.in_ok-cone.ensures.cells s a d))
          (subst (λ (v : HeadedNumbers). AreDirty s (generation_in edited_at) dirty (stamped_in edited_at v.numbers)) (sym (c.raise_cone.ensures.same w.if-not-raise_cone.true)) (c.requires.dirty s a)))
      | else-not-raise_cone w ↦
          subst (λ (v : HeadedNumbers). AreDirty s (generation_in edited_at) [] (stamped_in edited_at v.numbers)) (sym w.valid_since-is)
          (flushed_by_head s edited_at c.args.valid_since.now.numbers raised.numbers c.args.valid_since.now.head c.args.valid_since.now.cone dirty c.args.cell c.number_at-number.result c.requires.only c.number_at-number.ensures
          (c.raise_cone.ensures.head w.if-not-raise_cone.false) (c.requires.head s a) (c.raise_cone.ensures.numbers w.if-not-raise_cone.false) (c.requires.dirty s a))
    ] in
    subst (λ (es : Generations). AreDirty s (generation_in edited_at) (keys_of es) (stamped_in edited_at c.if-not-raise_cone.valid_since.numbers)) (sym c.clear.ensures) now

pub returns-clause-head : goal.returns-clause-head
returns-clause-head c = λ s a.
    elim c.if-not-raise_cone.branch [
      | then-not-raise_cone+in_ok-cone+in_ok-lift_cone w ↦
          subst (λ (v : HeadedNumbers). IsHeadOf s v.head v.cone) (sym w.valid_since-is)
          (headed_by s w.lift_cone.new.self.head w.lift_cone.new.self.cone w.in_ok-cone.cone.items c.args.cell w.in_ok-lift_cone.ensures.head (w.in_ok-cone.ensures.cells s a))
      | else-not-raise_cone w ↦
          subst (λ (v : HeadedNumbers). IsHeadOf s v.head v.cone) (sym w.valid_since-is)
          (subst (λ (o : Option ℕ). IsHeadOf s o c.raise_cone.new.self.cone) (sym c.raise_cone.ensures.kept.0) (subst (IsHeadOf s c.args.valid_since.now.head) (sym c.raise_cone.ensures.kept.1) (c.requires.head s a)))
    ]

pub returns-in_err-cone-clause-dirty : goal.returns-in_err-cone-clause-dirty
returns-in_err-cone-clause-dirty c = λ s a.
    subst (λ (v : HeadedNumbers). AreDirty s (generation_in c.args.edited_at.now.entries) (keys_of c.args.dirty.now.entries) (stamped_in c.args.edited_at.now.entries v.numbers)) (sym (c.raise_cone.ensures.same c.if-not-raise_cone.true)) (c.requires.dirty s a)

pub returns-in_err-lift_cone-clause-dirty : goal.returns-in_err-lift_cone-clause-dirty
returns-in_err-lift_cone-clause-dirty c =
    dirty_renumbered c.args.graph.now.now c.args.edited_at.now.entries c.raise_cone.new.self.numbers c.lift_cone.new.self.numbers (keys_of c.args.dirty.now.entries) c.in_err-lift_cone.ensures.err
    (λ s a. subst (λ (v : HeadedNumbers). AreDirty s (generation_in c.args.edited_at.now.entries) (keys_of c.args.dirty.now.entries) (stamped_in c.args.edited_at.now.entries v.numbers)) (sym (c.raise_cone.ensures.same c.if-not-raise_cone.true)) (c.requires.dirty s a))
