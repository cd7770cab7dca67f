-- What `opt` answers.
use Rattle.std.proofs.Common.{◌≡◌, ℕ, ◌≤◌, Bool, true, false, nat_lt, lt-ltb, List, [], length, Option, None, Some, Result, Ok, Err, if◌then◌else◌, refl, sym, ap, ◌∙◌, subst, arith}
use Rattle.std.specs.List.{list_all}
use Rattle.sl_model.specs.declared.instruction.Instr.{Instr}
use Rattle.sl_model.specs.declared.register.Reg.{Reg}
use Rattle.sl_model.specs.declared.schedule.Choice.{Choice}
use Rattle.sl_model.specs.declared.limits.TheConstants.{ITEMS}
use Rattle.sl_model.specs.Answers.{Settles}
use Rattle.sl_model.specs.Body.{applied}
use Rattle.sl_model.specs.Graph.{body_of}
use Rattle.sl_model.specs.Isa.{Isa}
use Rattle.sl_model.specs.Legal.{Problem, IsFullLegal}
use Rattle.sl_model.specs.Program.{Leaves}
use Rattle.sl_model.specs.Program.Program.{Straight}
use Rattle.sl_model.specs.Space.{IsBest}
use Rattle.sl_isa.specs.declared.arch.CounterOp.TheVariants.{Sub, Subs}
use Rattle.sl_isa.specs.Language.{Language, IsLanguage}
use Rattle.search_space.specs.Searchable.{IsSearchable}
use Rattle.asm_reader.specs.Notes.{NoteValue}
use Rattle.asm_reader.specs.Reading.{Region}
use Rattle.asm_reader.specs.Regions.{AreNamed, is_right_unit}
use Rattle.asm_printer.specs.Printed.{line_end, is_whole_plan}
use Rattle.asm_printer.proofs.ForCallers.{region-reads, leaves-unmarked, is-line_end, spelled-named}
use Rattle.renamer.proofs.ForCallers.{straight-leaves, straight-sound, applied-spelled}
use Rattle.slothy_cli.specs.declared.stop.Stop.{Stop}
use Rattle.slothy_cli.specs.declared.stop.Failure.{Failure}
use Rattle.slothy_cli.specs.declared.stop.Failure.TheVariants.{Stopped, NoMemory}
use Rattle.slothy_cli.specs.Command.{Aim, region_wants}
use Rattle.slothy_cli.specs.Outcome.{OptText, FoundAnswers}
use Rattle.slothy_cli.specs.Searched.{IsBestOf}
use Rattle.slothy_cli.specs.Setting.{Setting, IsSetting}
use Rattle.slothy_cli.specs.Plan.{region_frame, region_problem, plan_of, schedule_file}
use Rattle.slothy_cli.specs.Shown.{stop_told}
use Rattle.slothy_cli.proofs.Marks.{applied-marked}
use Rattle.slothy_cli.proofs.OptChoices.{legal-known, legal-units, legal-on_core, legal-length}
use Rattle.slothy_cli.proofs.Plans.{length-applied, plan-length}
use Rattle.slothy_cli.proofs.Searched.{best-fewest}

-- Is a plan one that is printed and read again: its numbers are small, and its units have names?
abbrev pub IsPlanRight : Setting → Problem → List Choice → Type 0
IsPlanRight setting problem schedule =
    (is_whole_plan (plan_of setting.core problem schedule) ≡ true)
    × (list_all (λ (note : NoteValue). is_right_unit note.unit) (plan_of setting.core problem schedule).notes ≡ true)

-- The written file of the best schedule is the text.
opt-text : (language : Language) (aim : Aim) (setting : Setting) (schedule : List Choice) (text : List ℕ) → IsLanguage language
    → IsSetting language setting → IsSearchable (region_problem language.isa aim setting) → IsBest (region_problem language.isa aim setting) aim.most schedule
    → IsPlanRight setting (region_problem language.isa aim setting) schedule → text ≡ schedule_file language setting.core setting.region (region_problem language.isa aim setting) schedule → OptText language aim setting schedule text
opt-text language aim setting schedule text lawful sound searchable best plan is =
    let region : Region = setting.region in
    let right = sound.right in
    let items : List Instr = region.items in
    let decrement : Bool → Reg → Instr = λ flagged c. language.step_of (if flagged then Subs else Sub 1) c 0 in
    let problem : Problem = region_problem language.isa aim setting in
    let few : length schedule ≤ ITEMS = omega (arith, legal-length problem searchable schedule best.member.legal, right.few) in
    let spelled = applied-spelled language region.pairs problem schedule lawful (straight-sound language.isa items right.valid) right.spelled best.member.legal in
    let marks = applied-marked language.isa (length region.tags) problem.graph schedule right.marks (legal-known problem searchable schedule best.member.legal) in
    let again =
    region-reads language region_wants region.pairs region.tags (applied (body_of problem.graph) schedule) (plan_of setting.core problem schedule) (line_end region.parts.before) lawful
    (omega (arith, length-applied (body_of problem.graph) [] schedule)) spelled right.names marks plan.1 plan.0 (plan-length setting.core problem schedule) (is-line_end region.parts.before) in
    record {
      best = best;
      fewest = best-fewest language.isa aim setting searchable schedule best;
      text_is = is;
      new = again.new;
      reads = again.is;
      same = λ s tags.
          leaves-unmarked language.isa decrement (region_frame aim items) (Straight items) (applied (body_of problem.graph) schedule) again.new.draft.items s again.same
          (straight-leaves language.isa items (region_frame aim items) setting.costs schedule s decrement lawful.set right.valid best.member.legal tags);
    }

-- Where the text is the written file of the best schedule, it is what is answered where this was found.
pub written-answers : (language : Language) (aim : Aim) (setting : Setting) (schedule : List Choice) (answer : Result (List ℕ) Stop) → IsLanguage language
    → IsSetting language setting → IsSearchable (region_problem language.isa aim setting) → IsBest (region_problem language.isa aim setting) aim.most schedule
    → IsPlanRight setting (region_problem language.isa aim setting) schedule → answer ≡ Ok (schedule_file language setting.core setting.region (region_problem language.isa aim setting) schedule) → FoundAnswers language aim setting schedule answer
written-answers language aim setting schedule answer lawful sound searchable best plan is =
    subst (FoundAnswers language aim setting schedule) (sym is)
    (opt-text language aim setting schedule (schedule_file language setting.core setting.region (region_problem language.isa aim setting) schedule) lawful sound searchable best plan refl)

-- It is full and legal, and has as many choices as there are items at most, each of an item and on a unit.
module _ (isa : Isa) (aim : Aim) (setting : Setting) (problem : Problem) (schedule : List Choice) (found : IsBestOf isa aim setting problem schedule) where
  pub found-few : length schedule ≤ length setting.region.items
  found-few = omega (arith, legal-length problem found.searchable schedule found.best.member.legal, ap (λ (p : Problem). length p.graph.items) found.is)

  pub found-known : list_all (λ c. nat_lt c.item (length problem.graph.items)) schedule ≡ true
  found-known = legal-known problem found.searchable schedule found.best.member.legal

  pub found-units : list_all (λ c. nat_lt c.unit 16) schedule ≡ true
  found-units = legal-units problem found.searchable schedule found.best.member.legal

  pub found-legal : IsFullLegal problem schedule
  found-legal = found.best.member.legal

module _ (language : Language) (aim : Aim) (setting : Setting) (problem : Problem) (schedule : List Choice) (sound : IsSetting language setting) (found : IsBestOf language.isa aim setting problem schedule) where
  -- Its units are the core's.
  pub found-on_core : list_all (λ c. nat_lt c.unit (length setting.core.units)) schedule ≡ true
  found-on_core =
      let whole : Problem = region_problem language.isa aim setting in
      let searchable : IsSearchable whole = subst IsSearchable found.is found.searchable in
      let legal : IsFullLegal whole schedule = subst (λ p. IsFullLegal p schedule) found.is found.best.member.legal in
      legal-on_core whole searchable (length setting.core.units)
      (λ p unit within. sound.units p unit)
      schedule legal

  -- The instructions of the schedule have registers of the machine alone, so they need no names.
  pub found-named : IsLanguage language → AreNamed setting.region.pairs (applied (body_of problem.graph) schedule)
  found-named lawful =
      let is : problem ≡ region_problem language.isa aim setting = found.is in
      let region : Region = setting.region in
      let whole : Problem = region_problem language.isa aim setting in
      let legal : IsFullLegal whole schedule = subst (λ p. IsFullLegal p schedule) is found.best.member.legal in
      subst (λ (p : Problem). AreNamed region.pairs (applied (body_of p.graph) schedule)) (sym is)
      (spelled-named language region.pairs (applied (body_of whole.graph) schedule) lawful
      (applied-spelled language region.pairs whole schedule lawful (straight-sound language.isa region.items sound.right.valid) sound.right.spelled legal))

-- what settles one question settles another that it answers
pub settles-weaken : {X Y : Type 0} (view : X → Y) (r : Result X Failure) (P Q : Result Y Stop → Type 0) → ((a : Result Y Stop) → P a → Q a) → Settles stop_told view r P → Settles stop_told view r Q
settles-weaken view (Ok x) P Q go h = go (Ok (view x)) h
settles-weaken view (Err (Stopped stop)) P Q go h = go (Err stop) h
settles-weaken view (Err NoMemory) P Q go h = tt
