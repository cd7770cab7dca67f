-- What holds of every region that is read: each statement keeps it.
use Rattle.std.proofs.Common.{◌≡◌, ℕ, ◌<◌, ◌≤◌, ◌==◌, Bool, true, false, cond, not, ◌&&◌, nat_lt, is_some, List, [], ◌∷◌, ◌++◌, length, length-append, Option, None, Some, Result, Ok, Err, refl, sym, ap, ◌∙◌, subst, arith, ltb-true}
use Rattle.std.specs.List.{list_all}
use Rattle.std.proofs.lemmas.Bool.{and_parts, and_from}
use Rattle.std.proofs.lemmas.Bool.Decides.{nat_tests}
use Rattle.std.proofs.lemmas.List.Folds.{list_all-append}
use Rattle.sl_model.specs.declared.instruction.Instr.{Instr}
use Rattle.sl_model.specs.Exec.{has_access}
use Rattle.sl_model.specs.Isa.{Isa}
use Rattle.sl_model.specs.ResultSteps.{◌>>=◌}
use Rattle.sl_model.specs.Lawful.{IsValid, AreValid}
use Rattle.sl_model.specs.Source.{item_at}
use Rattle.sl_model.specs.Text.{Parts}
use Rattle.sl_model.specs.Token.{Lexeme}
use Rattle.sl_isa.specs.declared.reasons.FormReason.{FormReason}
use Rattle.sl_isa.specs.Language.{Language, IsLanguage, IsRead, IsSpelled, knows_words, pairs_behind, read_behind, unmarked, AreSpelled}
use Rattle.sl_isa.specs.Symbols.{Pair}
use Rattle.sl_isa.proofs.ForCallers.{IsFrontOf, with_pairs-front, have_pairs-with}
use Rattle.sl_laws.proofs.Valid.{valid-on_line, valid-marked, valid-push}
use Rattle.asm_reader.specs.declared.draft.Awaiting.{Awaiting}
use Rattle.asm_reader.specs.declared.reasons.Reason.TheVariants as reason
use Rattle.asm_reader.specs.declared.reasons.Refusal.{Refusal}
use Rattle.asm_reader.specs.declared.reasons.Wants.{Wants}
use Rattle.sl_model.specs.declared.limits.TheConstants.{READ_ITEMS}
use Rattle.asm_reader.specs.Notes.{NoteValue, Remark, Said, of_item, of_region, is_tag}
use Rattle.asm_reader.specs.Entries.{Entry, Begun, Expanded, Stated, Told, entries}
use Rattle.asm_reader.specs.Statements.{Statement}
use Rattle.macro_expand.specs.Source.{Piece}
use Rattle.asm_reader.specs.Tags.{with_tag}
use Rattle.asm_reader.specs.Unset.{first_unset}
use Rattle.asm_reader.specs.Drafts.{Draft, refused, no_draft, anew, untold, longer, most_items, with_item, with_last, marked, with_remark, first_mask, with_said, may_say, awaits, with_note, with_noted, with_parts}
use Rattle.asm_reader.specs.Reading.{Progress, no_progress, instr_or, instr_of, pairs_after, said_by, with_statement, standing, wordless, with_entry, with_entries, set_read, pieces_read, region_from}
use Rattle.asm_reader.specs.Regions.{is_right_tag, is_marked_right, is_right_unit, IsRegion}
use Rattle.asm_reader.proofs.Answered.{taken, chain_read, held, kept_at}
use Rattle.asm_reader.proofs.LastOnes.{length_last, last_of_front, all_last}
use Rattle.asm_reader.proofs.Marks.{more_tags, right_names, marks_mono, plain_right, given_tag}
use Rattle.asm_reader.proofs.Pushed.{are_valid-parts, are_spelled-push, are_spelled-more, are_spelled-parts, are_named}
use Rattle.asm_reader.proofs.RightNotes.{IsRightRemark, IsRightSaid, right_by}
use Rattle.asm_reader.proofs.Writers.{are_set}
use Rattle.asm_reader.proofs.Steps.{named_draft}

-- Of the last instruction, as long as no note was said of it, it is known whether it accesses memory.
abbrev IsAwaited : Isa → Option Awaiting → List Instr → Type 0
IsAwaited isa None items = Unit {0}
IsAwaited isa (Some last) items = (front : List Instr) × ((i : Instr) × ((items ≡ front ++ i ∷ []) × (has_access (isa.info i.form) ≡ last.accesses)))

-- What was read so far is right, with the names of these pairs.
record IsDraft (language : Language) (wants : Wants) (pairs : List Pair) (draft : Draft) : Type 0 where
  few : length draft.items ≤ wants.limit
  valid : AreValid language.isa draft.items
  spelled : AreSpelled language pairs draft.items
  marks : list_all (is_marked_right language.isa (length draft.tags)) draft.items ≡ true
  names : list_all is_tag draft.tags ≡ true
  noted : length draft.notes ≡ length draft.items
  units : list_all (λ (note : NoteValue). is_right_unit note.unit) draft.notes ≡ true
  awaited : IsAwaited language.isa draft.awaiting draft.items

-- the lesser of two numbers is at most the first one
lesser : (limit most : ℕ) → cond (nat_lt limit most) limit most ≤ limit
lesser limit most = of (nat_lt limit most) refl
  where
    of : (b : Bool) → nat_lt limit most ≡ b → cond b limit most ≤ limit
    of true e = omega arith
    of false e = grind (arith, nat_tests)

module _ (language : Language) (lawful : IsLanguage language) (wants : Wants) where
  kept_none : IsDraft language wants [] no_draft
  kept_none = record {
    few = omega arith;
    valid = λ p within. absurd (omega arith);
    spelled = tt;
    marks = refl;
    names = refl;
    noted = refl;
    units = refl;
    awaited = tt;
  }

  -- further names
  kept_more : (pairs more : List Pair) (draft : Draft) → IsDraft language wants pairs draft → IsDraft language wants (pairs ++ more) draft
  kept_more pairs more draft kept = record {
    few = kept.few;
    valid = kept.valid;
    spelled = are_spelled-more language pairs more draft.items lawful kept.spelled;
    marks = kept.marks;
    names = kept.names;
    noted = kept.noted;
    units = kept.units;
    awaited = kept.awaited;
  }

  -- one more item
  kept_item : (pairs : List Pair) (line : ℕ) (draft more : Draft) (words : List Lexeme) (i : Instr) → knows_words language pairs words ≡ true → language.reads pairs words ≡ Ok i → IsDraft language wants pairs draft
      → with_item wants (has_access (language.isa.info i.form)) line draft i ≡ Ok more → IsDraft language wants pairs more × (longer (has_access (language.isa.info i.form)) line draft i ≡ more)
  kept_item pairs line draft more words i known was kept e =
      let law : IsRead language.isa pairs i = lawful.read pairs words i known was in
      let j : Instr = record i { line = line } in
      let next : Draft = longer (has_access (language.isa.info i.form)) line draft i in
      let so = taken (nat_lt (length draft.items) (most_items wants)) _ next more e in
      let room : length draft.items < most_items wants = ltb-true (length draft.items) (most_items wants) so.0 in
      let most : most_items wants ≤ wants.limit = lesser wants.limit READ_ITEMS in
      let plain : i ≡ unmarked j = plain_of i law.plain.0 law.plain.1 law.plain.2 law.plain.3 in
      let valid = valid-on_line language.isa i line law.valid in
      let result : IsDraft language wants pairs next = record {
        few = omega (arith, length-append draft.items (j ∷ []));
        valid = valid-push language.isa draft.items j kept.valid valid;
        spelled = are_spelled-push language pairs draft.items j kept.spelled (record { words = words; known = known; read = was ∙ ap (λ (k : Instr). Ok k) plain });
        marks = list_all-append (is_marked_right language.isa (length draft.tags)) draft.items (j ∷ [])
            ∙ and_from (list_all (is_marked_right language.isa (length draft.tags)) draft.items) (is_marked_right language.isa (length draft.tags) j && true) kept.marks
            (and_from (is_marked_right language.isa (length draft.tags) j) true (plain_right language.isa (length draft.tags) j law.plain.0 law.plain.1) refl);
        names = kept.names;
        noted = omega (arith, kept.noted, length-append draft.items (j ∷ []), length-append draft.notes (untold line ∷ []));
        units = list_all-append (λ (note : NoteValue). is_right_unit note.unit) draft.notes (untold line ∷ [])
            ∙ and_from (list_all (λ (note : NoteValue). is_right_unit note.unit) draft.notes) true kept.units refl;
        awaited = (draft.items, (j, (refl, refl)));
      } in
      (subst (IsDraft language wants pairs) so.1 result, so.1)
    where
      plain_of : (i : Instr) → i.tag ≡ None → i.early ≡ false → i.late ≡ false → i.line ≡ 0 → i ≡ unmarked i
      plain_of i a b c d =
          ap (λ t. record i { tag = t }) a ∙ ap (λ x. record i { tag = None; early = x }) b ∙ ap (λ x. record i { tag = None; early = false; late = x }) c
          ∙ ap (λ n. record i { tag = None; early = false; late = false; line = n }) d

  -- the last item, with what a note says
  kept_remark : (pairs : List Pair) (draft : Draft) (remark : Remark) (last : Awaiting) → IsRightRemark remark → may_say last.accesses (Some (of_item remark)) ≡ true
      → (front : List Instr) (i : Instr) → draft.items ≡ front ++ i ∷ [] → has_access (language.isa.info i.form) ≡ last.accesses
      → IsDraft language wants pairs draft → IsDraft language wants pairs (with_remark draft remark)
  kept_remark pairs draft remark last right may front i is accesses kept =
      let isa : Isa = language.isa in
      let j : Instr = marked draft.tags remark i in
      let items : with_last (marked draft.tags remark) draft.items ≡ front ++ j ∷ [] = ap (with_last (marked draft.tags remark)) is ∙ last_of_front (marked draft.tags remark) front i in
      let count : ℕ = length (with_tag remark.tag draft.tags) in
      let valid = are_valid-parts isa front i (subst (λ (l : List Instr). (p : ℕ) → p < length l → IsValid isa (item_at l p)) is kept.valid) in
      let spelled = are_spelled-parts language pairs front i (subst (AreSpelled language pairs) is kept.spelled) in
      let was : IsSpelled language pairs i = spelled.1 in
      let marks = and_parts (list_all (is_marked_right isa (length draft.tags)) front) (is_marked_right isa (length draft.tags) i && true)
      (sym (list_all-append (is_marked_right isa (length draft.tags)) front (i ∷ [])) ∙ ap (list_all (is_marked_right isa (length draft.tags))) (sym is) ∙ kept.marks) in
      let marks_now : list_all (is_marked_right isa count) (front ++ j ∷ []) ≡ true =
      list_all-append (is_marked_right isa count) front (j ∷ [])
      ∙ and_from (list_all (is_marked_right isa count) front) (is_marked_right isa count j && true)
      (marks_mono isa (length draft.tags) count front (more_tags remark.tag draft.tags) marks.0)
      (and_from (is_marked_right isa count j) true
      (and_from (is_right_tag (has_access (isa.info j.form)) count j.tag) (not (remark.early && remark.late))
      (given_tag (has_access (isa.info i.form)) remark.tag draft.tags (ap (λ b. cond (is_some remark.tag) b true) accesses ∙ may)) (ap not right.marks)) refl) in
      record {
        few = omega (arith, kept.few, length_last (marked draft.tags remark) draft.items);
        valid = subst (λ (l : List Instr). (p : ℕ) → p < length l → IsValid isa (item_at l p)) (sym items) (valid-push isa front j valid.0 (valid-marked isa i j.tag remark.early remark.late valid.1));
        spelled = subst (AreSpelled language pairs) (sym items) (are_spelled-push language pairs front j spelled.0 (record { words = was.words; known = was.known; read = was.read }));
        marks = ap (list_all (is_marked_right isa count)) items ∙ marks_now;
        names = right_names remark.tag draft.tags right.tag kept.names;
        noted = length_last (λ note. remark.told) draft.notes ∙ kept.noted ∙ sym (length_last (marked draft.tags remark) draft.items);
        units = all_last (λ (note : NoteValue). is_right_unit note.unit) remark.told draft.notes right.unit kept.units;
        awaited = tt;
      }

  -- a mask
  kept_mask : (pairs : List Pair) (draft : Draft) (mask : Option ℕ) → IsDraft language wants pairs draft → IsDraft language wants pairs (record draft { mask = mask })
  kept_mask pairs draft mask kept = record {
    few = kept.few;
    valid = kept.valid;
    spelled = kept.spelled;
    marks = kept.marks;
    names = kept.names;
    noted = kept.noted;
    units = kept.units;
    awaited = kept.awaited;
  }

  -- what a note says of the last item
  kept_said : (pairs : List Pair) (draft : Draft) (said : Option Said) (last : Awaiting) (awaiting : Option Awaiting) → draft.awaiting ≡ awaiting → awaiting ≡ Some last → IsRightSaid said → may_say last.accesses said ≡ true
      → IsDraft language wants pairs draft → IsDraft language wants pairs (with_said draft said)
  kept_said pairs draft None last awaiting at is right may kept = kept
  kept_said pairs draft (Some (of_region mask)) last awaiting at is right may kept = kept_mask pairs draft (first_mask draft.mask mask) kept
  kept_said pairs draft (Some (of_item remark)) last awaiting at is right may kept =
      let known : IsAwaited language.isa (Some last) draft.items = subst (λ (a : Option Awaiting). IsAwaited language.isa a draft.items) (at ∙ is) kept.awaited in
      kept_remark pairs draft remark last right may known.0 known.1.0 known.1.1.0 known.1.1.1 kept

  -- a note without an instruction of its statement
  kept_note : (pairs : List Pair) (line : ℕ) (draft more : Draft) (said : Option Said) → IsRightSaid said → IsDraft language wants pairs draft → with_note line draft said ≡ Ok more → IsDraft language wants pairs more
  kept_note pairs line draft more None right kept e = let same : draft ≡ more = cc in subst (IsDraft language wants pairs) same kept
  kept_note pairs line draft more (Some (of_region mask)) right kept e =
      let so = held (not draft.invoked) (Ok (with_said draft (Some (of_region mask)))) _ more e in
      let same : record draft { mask = first_mask draft.mask mask } ≡ more = cc in
      subst (IsDraft language wants pairs) same (kept_mask pairs draft (first_mask draft.mask mask) kept)
  kept_note pairs line draft more (Some (of_item remark)) right kept e = of draft.awaiting refl e
    where
      of : (awaiting : Option Awaiting) → draft.awaiting ≡ awaiting → cond (awaits line (Some (of_item remark)) awaiting) (Ok (with_remark draft remark)) (refused line reason.TagBad) ≡ Ok more → IsDraft language wants pairs more
      of None at f = cc
      of (Some last) at f =
          let so = held (last.line == line && may_say last.accesses (Some (of_item remark))) (Ok (with_remark draft remark)) _ more f in
          let may = (and_parts (last.line == line) (may_say last.accesses (Some (of_item remark))) so.0).1 in
          let same : with_remark draft remark ≡ more = cc in
          subst (IsDraft language wants pairs) same (kept_said pairs draft (Some (of_item remark)) last (Some last) at refl right may kept)

  -- an instruction with its note
  kept_noted : (pairs : List Pair) (line : ℕ) (draft more : Draft) (said : Option Said) (words : List Lexeme) (i : Instr) → knows_words language pairs words ≡ true → language.reads pairs words ≡ Ok i → IsRightSaid said → IsDraft language wants pairs draft
      → with_noted wants (has_access (language.isa.info i.form)) line draft said i ≡ Ok more → IsDraft language wants pairs more
  kept_noted pairs line draft more said words i known was right kept e =
      let accesses = has_access (language.isa.info i.form) in
      let so = held (may_say accesses said) (with_item wants accesses line draft i >>= λ d. Ok (with_said d said)) _ more e in
      let steps = chain_read (with_item wants accesses line draft i) (λ d. Ok (with_said d said)) more so.1 in
      let pushed = kept_item pairs line draft steps.0 words i known was kept steps.1.0 in
      let same : with_said steps.0 said ≡ more = cc in
      subst (IsDraft language wants pairs) same
      (kept_said pairs steps.0 said (record { line = line; accesses = accesses }) _ (ap (λ (d : Draft). d.awaiting) (sym pushed.1)) refl right so.0 pushed.0)

  -- what a statement holds, with the names of its words
  kept_parts : (pairs : List Pair) (line : ℕ) (draft more : Draft) (said : Option Said) (words : List Lexeme) (instr : Option Instr) → instr_of language pairs line words ≡ Ok instr → IsRightSaid said
      → IsDraft language wants (pairs_after language pairs words) draft → with_parts language.isa wants line draft said instr ≡ Ok more → IsDraft language wants (pairs_after language pairs words) more
  kept_parts pairs line draft more said words None was right kept e = kept_note (pairs_after language pairs words) line draft more said right kept e
  kept_parts pairs line draft more said [] (Some i) was right kept e = cc
  kept_parts pairs line draft more said (first ∷ words) (Some i) was right kept e = of (read_behind language pairs (first ∷ words)) refl was
    where
      of : (r : Result Instr FormReason) → read_behind language pairs (first ∷ words) ≡ r → instr_or line (first ∷ words) r ≡ Ok (Some i) → IsDraft language wants (pairs_behind language pairs (first ∷ words)) more
      of (Ok j) read f =
          let same : j ≡ i = cc in
          kept_noted (pairs_behind language pairs (first ∷ words)) line draft more said (first ∷ words) i (have_pairs-with pairs (language.pairs_in (first ∷ words))) (read ∙ ap (λ (k : Instr). Ok k) same) right kept e
      of (Err form) read f = cc

  -- the names of the words come behind those so far
  kept_after : (pairs : List Pair) (words : List Lexeme) (draft : Draft) → IsDraft language wants pairs draft → IsDraft language wants (pairs_after language pairs words) draft
  kept_after pairs [] draft kept = kept
  kept_after pairs (first ∷ words) draft kept =
      let front : IsFrontOf pairs (pairs_behind language pairs (first ∷ words)) = with_pairs-front pairs (language.pairs_in (first ∷ words)) in
      subst (λ ps. IsDraft language wants ps draft) (sym front.is) (kept_more pairs front.more draft kept)

  kept_statement : (read more : Progress) (statement : Statement) → IsDraft language wants read.pairs read.draft → with_statement language wants read statement ≡ Ok more → IsDraft language wants more.pairs more.draft
  unfolding with_statement
  kept_statement read more statement kept e =
      let words : List Lexeme = statement.words in
      let first = chain_read (instr_of language read.pairs statement.line words) (λ instr. said_by statement.line statement.note >>= λ said. with_parts language.isa wants statement.line read.draft said instr >>= λ draft. Ok (named_draft language read statement draft)) more e in
      let second = chain_read (said_by statement.line statement.note) (λ said. with_parts language.isa wants statement.line read.draft said first.0 >>= λ draft. Ok (named_draft language read statement draft)) more first.1.1 in
      let third = chain_read (with_parts language.isa wants statement.line read.draft second.0 first.0) (λ draft. Ok (named_draft language read statement draft)) more second.1.1 in
      let same : named_draft language read statement third.0 ≡ more = cc in
      subst (λ (p : Progress). IsDraft language wants p.pairs p.draft) same
      (kept_parts read.pairs statement.line read.draft third.0 second.0 words first.0 first.1.0 (right_by statement.line statement.note second.0 second.1.0) (kept_after read.pairs words read.draft kept) third.1.0)

  -- where a row begins, or behind an invocation
  kept_anew : (pairs : List Pair) (draft : Draft) (invoked : Bool) → IsDraft language wants pairs draft → IsDraft language wants pairs (anew invoked draft)
  kept_anew pairs draft invoked kept = record {
    few = kept.few;
    valid = kept.valid;
    spelled = kept.spelled;
    marks = kept.marks;
    names = kept.names;
    noted = kept.noted;
    units = kept.units;
    awaited = tt;
  }

  kept_standing : (read more : Progress) (invoked : Bool) (answer : Result Progress Refusal) → IsDraft language wants read.pairs read.draft → answer ≡ Ok (standing invoked read) → answer ≡ Ok more → IsDraft language wants more.pairs more.draft
  kept_standing read more invoked answer kept is e =
      let same : standing invoked read ≡ more = cc in
      subst (λ (p : Progress). IsDraft language wants p.pairs p.draft) same (kept_anew read.pairs read.draft invoked kept)

  kept_entry : (read more : Progress) (entry : Entry) → IsDraft language wants read.pairs read.draft → with_entry language wants read entry ≡ Ok more → IsDraft language wants more.pairs more.draft
  unfolding with_entry
  kept_entry read more Begun kept e = kept_standing read more false _ kept refl e
  kept_entry read more Expanded kept e = kept_standing read more true _ kept refl e
  kept_entry read more (Stated statement) kept e = kept_statement read more statement kept e
  kept_entry read more (Told line note) kept e = kept_statement read more (wordless line note) kept e

  kept_entries : (read more : Progress) (all : List Entry) → IsDraft language wants read.pairs read.draft → with_entries language wants read all ≡ Ok more → IsDraft language wants more.pairs more.draft
  unfolding with_entries
  kept_entries read more [] kept e = let same : read ≡ more = cc in subst (λ (p : Progress). IsDraft language wants p.pairs p.draft) same kept
  kept_entries read more (entry ∷ all) kept e =
      let both = chain_read (with_entry language wants read entry) (λ next. with_entries language wants next all) more e in
      kept_entries both.0 more all (kept_entry read both.0 entry kept both.1.0) both.1.1

  -- All that is read is a region.
  pub is_region : (parts : Parts) (pieces : List Piece) (read : Progress) → pieces_read language wants pieces ≡ Ok read → IsRegion language wants (region_from parts read)
  unfolding pieces_read
  is_region parts pieces read e =
      let both = chain_read (with_entries language wants no_progress (entries pieces)) set_read read e in
      let set = kept_at reason.SymbolUnset (first_unset [] both.0.draft.items) both.0 read both.1.1 in
      let kept : IsDraft language wants both.0.pairs both.0.draft = kept_entries no_progress both.0 (entries pieces) kept_none both.1.0 in
      subst (λ (p : Progress). IsRegion language wants (region_from parts p)) set.1 (record {
        few = kept.few;
        valid = kept.valid;
        spelled = kept.spelled;
        named = are_named language both.0.pairs both.0.draft.items lawful kept.spelled;
        set = are_set both.0.draft.items set.0;
        marks = kept.marks;
        names = kept.names;
        noted = kept.noted;
        units = kept.units;
      })
