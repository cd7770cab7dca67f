-- The run of a faithful order, by induction over its choices.
use Rattle.std.proofs.Common.{◌≡◌, ℕ, ◌+◌, true, false, eqb, List, [], ◌∷◌, ◌++◌, reverse, refl, sym, ◌∙◌, ap, subst, ⊎_elim, true≢false, arith}
use Rattle.std.proofs.lemmas.Bool.{or_cases, eqb-true}
use Rattle.sl_model.specs.declared.register.Reg.{Reg}
use Rattle.sl_model.specs.declared.schedule.Choice.{Choice}
use Rattle.sl_model.specs.State.{State, byte}
use Rattle.sl_model.specs.Isa.{Isa}
use Rattle.sl_model.specs.Exec.{Touch, exec, run, touches, touches_of, operand_values}
use Rattle.sl_model.specs.Lawful.{IsLawful}
use Rattle.sl_model.specs.Program.{TagsHoldOf, times_of}
use Rattle.sl_model.specs.Body.{Body, flow_of, source_value, is_placed, held, applied, applied_item, applied_from, stands_in, is_full, IsFaithfulFrom}
use Rattle.renamer.specs.Faithful.{IsSound, Carries}
use Rattle.renamer.proofs.OrderFold.{everything, counted, folded-none, folded-all, counted-all, counted-none, counted-placed}
use Rattle.renamer.proofs.OrderFlow.{left_at, access_count, flow-bytes, flow-touches, times_of-append}
use Rattle.renamer.proofs.OrderStep.{Reached, placed-here, placed-before, placed-others, step-operands, step-reached}
use Rattle.sl_laws.proofs.Orders.{standing-passes}
use Rattle.sl_model.specs.Machine.{space_of}

-- choices put before those made so far, one after the other
unfoldable onto : List Choice → List Choice → List Choice
onto [] done = done
onto (c ∷ choices) done = onto choices (c ∷ done)

-- put before none, they are the choices in reverse
onto-reverse : (choices : List Choice) → onto choices [] ≡ reverse choices
unfolding onto
onto-reverse choices = refl

-- What was placed stays placed,
placed-onto : (choices done : List Choice) (q : ℕ) → is_placed done q ≡ true → is_placed (onto choices done) q ≡ true
unfolding onto
placed-onto [] done q h = h
placed-onto (c ∷ choices) done q h = placed-onto choices (c ∷ done) q (placed-before c done q h)

-- and what is chosen is placed.
chosen-onto : (choices done : List Choice) (q : ℕ) → is_placed choices q ≡ true → is_placed (onto choices done) q ≡ true
unfolding onto is_placed
chosen-onto [] done q h = absurd (true≢false (sym h))
chosen-onto (c ∷ choices) done q h = ⊎_elim
    (λ (here : eqb c.item q ≡ true). placed-onto choices (c ∷ done) q (subst (λ x. is_placed (c ∷ done) x ≡ true) (eqb-true c.item q here) (placed-here c done)))
    (λ (rest : is_placed choices q ≡ true). chosen-onto choices (c ∷ done) q rest)
    (or_cases (eqb c.item q) (is_placed choices q) h)

-- a sum in another order
regrouped : (a b c : ℕ) → (a + b) + c ≡ b + (a + c)
regrouped a b c = omega arith

module _ (isa : Isa) (body : Body) (s : State) (lawful : IsLawful isa) (sound : IsSound isa body) (tags : TagsHoldOf (space_of isa.name) (flow_of isa body s).touches) where
  -- before the first choice
  reached-start : Reached isa body s [] s
  unfolding held is_placed
  reached-start = record {
    registers = λ (r : Reg). refl;
    bytes = λ (at : ℕ). sym (folded-none (left_at isa body s at) (is_placed []) (byte s.memory at) body.order (λ (q : ℕ) there (placed : false ≡ true). absurd (true≢false (sym placed))));
    closed = λ (p q : ℕ) there (placed : false ≡ true) up conflicts. absurd (true≢false (sym placed));
  }

  -- A run of faithful choices reaches what they place.
  run-reached : (done choices : List Choice) (t : State) → Reached isa body s done t → IsFaithfulFrom isa body done choices → Reached isa body s (onto choices done) (run isa (applied_from body done choices) t)
  unfolding onto run applied_from
  run-reached done [] t reached faithful = reached
  run-reached done (c ∷ choices) t reached faithful =
      run-reached (c ∷ done) choices (exec isa (applied_item body done c) t) (step-reached isa body s lawful sound tags done t c reached faithful.0) faithful.1

  -- With it, the accesses are those of the placed items.
  run-touches : (a : Touch) (done choices : List Choice) (t : State) → Reached isa body s done t → IsFaithfulFrom isa body done choices
      → times_of a (touches isa (applied_from body done choices) t) + counted (access_count isa body s a) (is_placed done) body.order ≡ counted (access_count isa body s a) (is_placed (onto choices done)) body.order
  unfolding onto touches applied_from times_of
  run-touches a done [] t reached faithful = omega arith
  run-touches a done (c ∷ choices) t reached faithful =
      let rest : times_of a (touches isa (applied_from body (c ∷ done) choices) (exec isa (applied_item body done c) t)) + counted (access_count isa body s a) (is_placed (c ∷ done)) body.order ≡ counted (access_count isa body s a) (is_placed (onto choices (c ∷ done))) body.order =
      run-touches a (c ∷ done) choices (exec isa (applied_item body done c) t) (step-reached isa body s lawful sound tags done t c reached faithful.0) faithful.1 in
      let here : times_of a (touches_of isa (applied_item body done c) (operand_values (applied_item body done c) t)) ≡ access_count isa body s a c.item =
      ap (λ ins. times_of a (touches_of isa (body.instr c.item) ins)) (step-operands isa body s lawful sound tags done t c reached faithful.0) in
      let split : times_of a (touches_of isa (applied_item body done c) (operand_values (applied_item body done c) t) ++ touches isa (applied_from body (c ∷ done) choices) (exec isa (applied_item body done c) t))
      ≡ times_of a (touches_of isa (applied_item body done c) (operand_values (applied_item body done c) t)) + times_of a (touches isa (applied_from body (c ∷ done) choices) (exec isa (applied_item body done c) t)) =
      times_of-append a (touches_of isa (applied_item body done c) (operand_values (applied_item body done c) t)) (touches isa (applied_from body (c ∷ done) choices) (exec isa (applied_item body done c) t)) in
      let more : counted (access_count isa body s a) (is_placed (c ∷ done)) body.order ≡ access_count isa body s a c.item + counted (access_count isa body s a) (is_placed done) body.order =
      counted-placed (access_count isa body s a) (is_placed done) (is_placed (c ∷ done)) c.item body.order sound.once faithful.0.known faithful.0.fresh (placed-here c done) (placed-others c done) in
      ap (λ n. n + counted (access_count isa body s a) (is_placed done) body.order) (split ∙ ap (λ n. n + times_of a (touches isa (applied_from body (c ∷ done) choices) (exec isa (applied_item body done c) t))) here)
      ∙ regrouped (access_count isa body s a c.item) (times_of a (touches isa (applied_from body (c ∷ done) choices) (exec isa (applied_item body done c) t))) (counted (access_count isa body s a) (is_placed done) body.order)
      ∙ ap (λ n. times_of a (touches isa (applied_from body (c ∷ done) choices) (exec isa (applied_item body done c) t)) + n) (sym more)
      ∙ rest

  -- A faithful order in which all items are placed carries out the body.
  pub order-carries : (schedule : List Choice) → IsFaithfulFrom isa body [] schedule → is_full body.order schedule ≡ true → Carries isa body schedule s
  unfolding is_placed
  order-carries schedule faithful full =
      let all = λ (q : ℕ) (there : stands_in q body.order ≡ true). chosen-onto schedule [] q (standing-passes (is_placed schedule) body.order q full there) in
      let reached = run-reached [] schedule s reached-start faithful in
      record {
        registers = λ (r : Reg). reached.registers r ∙ ap (λ choices. source_value s (flow_of isa body s).values (held choices r)) (onto-reverse schedule);
        bytes = λ (at : ℕ). reached.bytes at ∙ folded-all (left_at isa body s at) (is_placed (onto schedule [])) (byte s.memory at) body.order all ∙ sym (flow-bytes isa body s sound at);
        access_counts = λ (a : Touch).
            let none : counted (access_count isa body s a) (is_placed []) body.order ≡ 0 = counted-none (access_count isa body s a) body.order in
            let run_all : times_of a (touches isa (applied body schedule) s) + counted (access_count isa body s a) (is_placed []) body.order ≡ counted (access_count isa body s a) (is_placed (onto schedule [])) body.order = run-touches a [] schedule s reached-start faithful in
            let whole : counted (access_count isa body s a) (is_placed (onto schedule [])) body.order ≡ counted (access_count isa body s a) everything body.order = counted-all (access_count isa body s a) (is_placed (onto schedule [])) body.order all in
            let flow : times_of a (flow_of isa body s).touches ≡ counted (access_count isa body s a) everything body.order = flow-touches isa body s sound a in
            omega arith;
      }
