use Rattle.std.proofs.Common.{◌≡◌, ◌∷◌, refl, ap, map, string_bytes, arith}
use Rattle.std.specs.Result.{is_ok}
use Rattle.std.proofs.lemmas.Grind.{common_steps}
use Rattle.toml.specs.View.{view, members_view}
use Rattle.toml.proofs.Views.{Entry}
use Rattle.core_text.specs.KeyViews.{stop_refusal}
use Rattle.core_text.specs.Reading.{class_entry, members_of}
use Rattle.core_text.proofs.ClassEntries.{entry-seen, entry-refused}
use Rattle.core_text.proofs.InTurn.{so_far-ends, so_far-grows, so_far-refuses, pushed}
use Rattle.core_text.proofs.classes.classes_in.Goals as goal

pub returns-in-Err : goal.returns-in-Err
returns-in-Err c =
    let e : Entry = (c.in-Some.name.now, c.in-Some.value.now) in
    let next : c.loop-name.name-iterator ≡ e ∷ c.next.new.self = grind (arith, common_steps) in
    so_far-refuses (class_entry c.args.arch (map (λ name. name.now) c.args.names.now)) (stop_refusal c.in-Err.stop) c.loop-name.entries.items c.loop-name.entries.items
    (members_of (members_view c.loop-name.name-iterator)) (members_of (members_view c.args.classes.now.entries)) (string_bytes e.0, view e.1) (members_of (members_view c.next.new.self))
    c.loop-name.invariant.2 (ap (λ es. members_of (members_view es)) next) refl
    (entry-refused c.args.arch (map (λ name. name.now) c.args.names.now) c.loop-name.entries.items c.as_str.result.now (string_bytes e.0) (view e.1) (stop_refusal c.in-Err.stop) c.as_str.ensures.value c.in-Err.ensures)

pub loop-name-preserved : goal.loop-name-preserved
loop-name-preserved c =
    let e : Entry = (c.in-Some.name.now, c.in-Some.value.now) in
    let next : c.loop-name.name-iterator ≡ e ∷ c.next.new.self = grind (arith, common_steps) in (
      tt,
      tt,
      so_far-grows (class_entry c.args.arch (map (λ name. name.now) c.args.names.now)) c.loop-name.entries.items c.loop-name.entries.items c.push.new.self.items
          (members_of (members_view c.loop-name.name-iterator)) (members_of (members_view c.args.classes.now.entries)) (string_bytes e.0, view e.1) (members_of (members_view c.next.new.self))
          c.in-Ok.entry c.loop-name.invariant.2 (ap (λ es. members_of (members_view es)) next) refl
          (entry-seen c.args.arch (map (λ name. name.now) c.args.names.now) c.loop-name.entries.items c.as_str.result.now (string_bytes e.0) (view e.1) c.in-Ok.entry c.as_str.ensures.value c.in-Ok.ensures)
          (pushed (is_ok c.push.result) c.is_err.result c.loop-name.entries.items c.push.new.self.items c.in-Ok.entry c.push.ensures.items c.if-is_err.false c.is_err.ensures.negation),
    )

pub returns : goal.returns
returns c =
    so_far-ends (class_entry c.args.arch (map (λ name. name.now) c.args.names.now)) c.loop-name.entries.items (members_of (members_view c.loop-name.name-iterator))
    (members_of (members_view c.args.classes.now.entries)) c.loop-name.invariant.2 (ap (λ es. members_of (members_view es)) c.in-None.ensures.steps.0)
