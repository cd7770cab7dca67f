-- A full legal schedule of a straight list leaves what the list leaves.
use Rattle.std.proofs.Common.{◌≡◌, ℕ, ◌<◌, Bool, true, false, ◌||◌, List, [], ◌∷◌, ◌++◌, map, length, None, Some, ⊎_elim, refl, sym, ap, subst, ◌∙◌, true≢false, slice_get, option_map, eqb, eq-eqb}
use Rattle.std.proofs.lemmas.Option.{slice_get-map, slice_get-get_or, get_or_from_slice_get}
use mathlib.Core.List.{reverse_aux}
use Rattle.sl_model.specs.declared.frame.Frame.{Frame}
use Rattle.sl_model.specs.declared.register.Reg.{Reg}
use Rattle.sl_model.specs.declared.instruction.Instr.{Instr}
use Rattle.sl_model.specs.declared.schedule.Choice.{Choice}
use Rattle.sl_model.specs.declared.schedule.Source.{Source}
use Rattle.sl_model.specs.declared.schedule.Source.TheVariants.{Entry}
use Rattle.sl_model.specs.Register.{same_reg}
use Rattle.sl_model.specs.RegSets.{set_has, regs_in}
use Rattle.sl_model.specs.State.{State, byte}
use Rattle.sl_model.specs.Source.{item_at, no_instr, last_source, list_sources, place_from, output_or, numbers_below}
use Rattle.sl_model.specs.Cycles.{CostTable}
use Rattle.sl_model.specs.Isa.{Isa}
use Rattle.sl_model.specs.Exec.{run, touches, touches_of, values_of, memory_after}
use Rattle.sl_model.specs.Body.{Body, Flow, flow_from, flow_of, source_value, sources_values, chosen, held, stands_in, applied}
use Rattle.sl_model.specs.Lawful.{IsLawful, AreValid}
use Rattle.sl_model.specs.Graph.{body_of, list_graph, sources_at}
use Rattle.sl_model.specs.Legal.{Problem, IsLegalNext, IsLegalFrom, IsFullLegal, allowed_in, straight_problem}
use Rattle.sl_model.specs.Program.{Program, Leaves, TagsHoldOf, is_one_of, is_live, may_change, writes, times_of}
use Rattle.sl_model.specs.Program.Program.{Straight}
use Rattle.renamer.specs.Faithful.{Carries, FlowIsRun, own_body}
use Rattle.renamer.proofs.SoundGraph.{IsSoundGraph, sound-body}
use Rattle.renamer.proofs.OrderRun.{order-carries}
use Rattle.std.proofs.lemmas.Bool.{cases_Bool, or_cases, or_parts, or_right}
use Rattle.renamer.proofs.OwnFlow.{own_flow-run}
use Rattle.renamer.proofs.LegalityRules.{SuitsOutput, suits_outputs}
use Rattle.renamer.proofs.LegalityFaithful.{legal-faithful}
use Rattle.renamer.proofs.LegalityFinals.{finals-hold}
use Rattle.renamer.proofs.StraightPosed.{straight-sound, straight-made}
use Rattle.sl_laws.proofs.Graphs.{list_graph-sources}
use Rattle.sl_laws.proofs.Numbers.{below-lt}
use Rattle.sl_laws.proofs.Registers.{place_from-misses, same_reg-true}
use Rattle.sl_laws.proofs.Members.{has-place}
use Rattle.sl_laws.proofs.MachineRegs.{has-regs_in}
use Rattle.sl_model.specs.Machine.{space_of}

-- an item of a flow, by its instruction and its sources
flow_with : Isa → State → Flow → ℕ → Instr → List Source → Flow
flow_with isa s flow p i sources = record {
  values = (p, values_of isa i (sources_values s flow.values sources) flow.memory) ∷ flow.values;
  memory = memory_after isa i (sources_values s flow.values sources) flow.memory;
  touches = flow.touches ++ touches_of isa i (sources_values s flow.values sources);
}

-- bodies whose items have the same sources have the same flow
flow_from-agree : (isa : Isa) (instr : ℕ → Instr) (f g : ℕ → List Source) (whole : List ℕ) (s : State) (flow : Flow) (order : List ℕ) → ((p : ℕ) → stands_in p order ≡ true → f p ≡ g p) → flow_from isa (record { instr = instr; sources = f; order = whole }) s flow order ≡ flow_from isa (record { instr = instr; sources = g; order = whole }) s flow order
unfolding flow_from stands_in flow_with
flow_from-agree isa instr f g whole s flow [] agree = refl
flow_from-agree isa instr f g whole s flow (p ∷ order) agree =
    ap (λ sources. flow_from isa (record { instr = instr; sources = f; order = whole }) s (flow_with isa s flow p (instr p) sources) order) (agree p (ap (λ b. b || stands_in p order) (eq-eqb p p refl)))
    ∙ flow_from-agree isa instr f g whole s (flow_with isa s flow p (instr p) (g p)) order (λ q stands. agree q (or_right (eqb p q) (stands_in q order) stands))

-- the straight problem has the flow of the list's own body
pub straight-flow : (isa : Isa) (items : List Instr) (s : State) → flow_of isa (body_of (list_graph isa items)) s ≡ flow_of isa (own_body items) s
straight-flow isa items s =
    flow_from-agree isa (item_at items) (sources_at (list_graph isa items)) (list_sources items) (numbers_below (length items)) s (record { values = []; memory = s.memory; touches = [] }) (numbers_below (length items))
    (λ p stands. list_graph-sources isa items p)

-- each item may write the registers that the frame allows
straight-allowed : (isa : Isa) (items : List Instr) (frame : Frame) (costs : CostTable) (p : ℕ) → p < length items → allowed_in (straight_problem isa items frame costs) p ≡ frame.allowed
straight-allowed isa items frame costs p within =
    get_or_from_slice_get (map (λ i. frame.allowed) items) p frame.allowed (record { bits = 0 })
    (slice_get-map (λ i. frame.allowed) items p ∙ ap (option_map (λ i. frame.allowed)) (slice_get-get_or items p no_instr within))

-- no output of a legal choice goes to a register that the frame doesn't allow
straight-misses : (isa : Isa) (items : List Instr) (frame : Frame) (costs : CostTable) (done : List Choice) (c : Choice) (r : Reg) → IsSoundGraph isa (list_graph isa items) → IsLegalNext (straight_problem isa items frame costs) done c → set_has frame.allowed r ≡ false → place_from 0 r (chosen c) ≡ None
straight-misses isa items frame costs done c r sound legal lacks = place_from-misses 0 r (chosen c) (λ k q at. ⊎_elim (λ t. absurd (never k q at (same_reg-true q r t))) (λ f. f) (cases_Bool (same_reg q r)))
  where
    never : (k : ℕ) (q : Reg) → slice_get (chosen c) k ≡ Some q → q ≡ r → ⊥
    never k q at same =
        let problem : Problem = straight_problem isa items frame costs in
        let suits : SuitsOutput isa problem c k q = suits_outputs isa problem done c sound legal k q at in
        let allowed : set_has frame.allowed q ≡ true =
        ap (λ set. set_has set q) (sym (straight-allowed isa items frame costs c.item (below-lt (length items) c.item legal.of.known))) ∙ suits.allowed in
        true≢false (sym allowed ∙ ap (set_has frame.allowed) same ∙ lacks)

-- so such a register holds what it held before
straight-keeps : (isa : Isa) (items : List Instr) (frame : Frame) (costs : CostTable) (done choices : List Choice) (r : Reg) → IsSoundGraph isa (list_graph isa items) → IsLegalFrom (straight_problem isa items frame costs) done choices → set_has frame.allowed r ≡ false → held done r ≡ Entry r → held (reverse_aux choices done) r ≡ Entry r
unfolding held
straight-keeps isa items frame costs done [] r sound legal lacks holds = holds
straight-keeps isa items frame costs done (c ∷ choices) r sound legal lacks holds =
    straight-keeps isa items frame costs (c ∷ done) choices r sound legal.1 lacks
    (ap (λ o. output_or c.item o (held done r)) (straight-misses isa items frame costs done c r sound legal.0 lacks) ∙ holds)

-- what is live behind a straight list is a register of the frame
straight-live : (items : List Instr) (frame : Frame) (r : Reg) → is_live frame (Straight items) r ≡ true → set_has frame.live r ≡ true
unfolding place_from
straight-live items frame r live = ⊎_elim (λ in_set. in_set) (λ no. absurd (true≢false (sym no))) (or_cases (set_has frame.live r) false live)

-- a register that may not be changed isn't allowed
unchanged-foreign : (decrement : Bool → Reg → Instr) (frame : Frame) (old : Program) (r : Reg) → may_change decrement frame old r ≡ false → set_has frame.allowed r ≡ false
unchanged-foreign decrement frame old r none =
    (or_parts (set_has frame.live r) (set_has frame.allowed r)
    (or_parts (is_one_of r (writes decrement old)) (set_has frame.live r || set_has frame.allowed r) none).1).1

-- a live register stands among the finals with its last writer
final_at : (isa : Isa) (items : List Instr) (frame : Frame) (costs : CostTable) (r : Reg) → set_has frame.live r ≡ true → (j : ℕ) × (slice_get (straight_problem isa items frame costs).finals j ≡ Some (r, last_source items r))
final_at isa items frame costs r live =
    let found = has-place r (regs_in frame.live) (has-regs_in frame.live r live) in
    let final : Reg → Reg × Source = λ q. (q, last_source items q) in
    (found.0, slice_get-map final (regs_in frame.live) found.0 ∙ ap (option_map final) found.1)

-- A full legal schedule of a straight list leaves what the list leaves.
pub straight-leaves : (isa : Isa) (items : List Instr) (frame : Frame) (costs : CostTable) (schedule : List Choice) (s : State) (decrement : Bool → Reg → Instr) → IsLawful isa → AreValid isa items → IsFullLegal (straight_problem isa items frame costs) schedule → TagsHoldOf (space_of isa.name) (touches isa items s) → Leaves isa decrement frame (Straight items) (Straight (applied (body_of (list_graph isa items)) schedule)) s
unfolding held
straight-leaves isa items frame costs schedule s decrement lawful valid legal tags =
    let problem : Problem = straight_problem isa items frame costs in
    let body : Body = body_of problem.graph in
    let sound : IsSoundGraph isa problem.graph = straight-sound isa items valid in
    let own : FlowIsRun isa items s = own_flow-run isa items s lawful valid in
    let one : flow_of isa body s ≡ flow_of isa (own_body items) s = straight-flow isa items s in
    let accesses : touches isa items s ≡ (flow_of isa body s).touches = own.accesses ∙ ap (λ (flow : Flow). flow.touches) (sym one) in
    let memory : (flow_of isa body s).memory ≡ (run isa items s).memory = ap (λ (flow : Flow). flow.memory) one ∙ sym own.memory in
    let carried : Carries isa body schedule s = order-carries isa body s lawful (sound-body isa problem.graph sound) (subst (TagsHoldOf (space_of isa.name)) accesses tags) schedule (legal-faithful isa problem [] schedule lawful sound legal.legal) legal.full in
    record {
      registers = λ r live.
          let final = final_at isa items frame costs r (straight-live items frame r live) in
          carried.registers r
          ∙ ap (source_value s (flow_of isa body s).values) (finals-hold isa problem schedule sound (straight-made isa items frame costs) legal final.0 r (last_source items r) final.1)
          ∙ ap (λ (flow : Flow). source_value s flow.values (last_source items r)) one
          ∙ sym (own.registers r);
      bytes = λ address. carried.bytes address ∙ ap (λ m. byte m address) memory;
      others = λ r concrete none.
          carried.registers r
          ∙ ap (source_value s (flow_of isa body s).values) (straight-keeps isa items frame costs [] schedule r sound legal.legal (unchanged-foreign decrement frame (Straight items) r none) refl);
      access_counts = λ a. carried.access_counts a ∙ ap (times_of a) (sym accesses);
    }
