-- The written file is read in place as its region is read by itself.
use Rattle.std.proofs.Common.{◌≡◌, ℕ, ◌+◌, ◌-◌, ◌≤◌, true, false, List, [], ◌∷◌, ◌++◌, length, map, codes, None, Some, Ok, refl, ap, sym, ◌∙◌, subst, arith}
use Rattle.std.specs.List.{list_all, AllByRecursion}
use Rattle.std.proofs.lemmas.Bool.{and_parts}
use Rattle.sl_model.specs.declared.instruction.Instr.{Instr}
use Rattle.sl_model.specs.declared.limits.TheConstants.{EXPANSION_SUM}
use Rattle.sl_model.specs.declared.text.Comments.{Comments}
use Rattle.sl_model.specs.ResultSteps.{◌>>=◌}
use Rattle.sl_model.specs.Text.{Parts, cut, numbered_lines}
use Rattle.sl_isa.specs.Arch.{comments_of}
use Rattle.sl_isa.specs.Language.{IsLanguage, Language, unmarked}
use Rattle.asm_reader.specs.declared.reasons.Reason.TheVariants as reason
use Rattle.asm_reader.specs.declared.reasons.Wants.{Wants}
use Rattle.asm_reader.specs.Drafts.{Draft, most_items}
use Rattle.asm_reader.specs.Entries.{entries}
use Rattle.asm_reader.specs.Notes.{note_said, of_region}
use Rattle.asm_reader.specs.Reading.{Region, no_progress, parts_or, pieces_or, pieces_read, region_alone, region_from, set_read, text_region, unless_at, with_entries}
use Rattle.asm_reader.specs.Unset.{first_unset}
use Rattle.macro_expand.specs.Region.{Reading, all_closed, before_rows, expansion, read_all, region_rows}
use Rattle.macro_expand.specs.Source.{Piece, rows}
use Rattle.asm_printer.proofs.ForCallers.{IsNoted, all-printed, all-read, all-said, drafted, drafted-same, drafted-set, entries-unmarked, head-inside, head-said, headed, is-line_end, length-entries, plain_read, reads_concrete, region_drafted}
use Rattle.asm_printer.specs.Lines.{IsPrinted, Printed, printed_items, region_lines}
use Rattle.asm_printer.specs.Printed as printing
use Rattle.asm_printer.specs.Printed.{PlanValue, head_note, is_whole, is_whole_head, line_end, region_text}
use Rattle.in_place.specs.Clear.{IsClear, IsStatement, is_no_colon, sum_of}
use Rattle.in_place.specs.InPlace.{AreReadInPlace, IsPrintable, ReadsInPlace, texts_of}
use Rattle.in_place.proofs.Before.{before-given}
use Rattle.in_place.proofs.Down.{draft_down, drafted-down}
use Rattle.in_place.proofs.Entered.{IsReadAgain, region-entered}
use Rattle.in_place.proofs.Expanded.{IsGiven, IsReady, given_pieces, region-given, state}
use Rattle.in_place.proofs.Markers.{IsLoud, region-behind, region-loud}
use Rattle.in_place.proofs.NewCut.{IsCutAgain, cut-again}
use Rattle.in_place.proofs.Right.{IsRight, all-map, all-right, entries-texts, read-again, ready}
use Rattle.in_place.proofs.Rows.{region-rows, region_pieces}

-- ---- the pieces of the region

-- what is known before the region, where no definition is open
state-is : (reading : Reading) → reading.opened ≡ None → reading ≡ state reading.macros reading.known
state-is reading e = ap (λ o. record { macros = reading.macros; opened = o; known = reading.known }) e

expanded : (comments : Comments) (parts : Parts) (texts : List (List ℕ)) (clear : IsClear comments parts texts) (pieces given : List Piece)
    → rows comments false (numbered_lines parts.first parts.body) ≡ pieces → IsGiven clear.reading.macros clear.reading.known pieces given → expansion comments parts ≡ Ok given
unfolding expansion
expanded comments parts texts clear pieces given are is =
    let reading = clear.reading in
    let rows_are : region_rows comments parts ≡ pieces = ap (λ b. rows comments b (numbered_lines parts.first parts.body)) clear.closed ∙ are in
    let all : read_all true (region_rows comments parts) reading ≡ Ok (state reading.macros (record reading.known { spent = is.spent; given = reading.known.given ++ given })) =
    ap (λ ps. read_all true ps reading) rows_are ∙ ap (read_all true pieces) (state-is reading clear.defined) ∙ is.is in
    ap (λ r. r >>= λ before. read_all true (region_rows comments parts) before >>= λ after. all_closed after.opened after.known) clear.known
    ∙ ap (λ r. r >>= λ after. all_closed after.opened after.known) all
    ∙ ap (λ front. Ok (front ++ given)) (before-given (before_rows comments parts) reading clear.known)

-- ---- the whole file

read-there : (language : Language) (wants : Wants) (start end file : List ℕ) (parts : Parts) (pieces : List Piece) (draft : Draft) → cut start end file ≡ Ok parts
    → expansion (comments_of language.isa.name) parts ≡ Ok pieces → with_entries language wants no_progress (entries pieces) ≡ Ok (plain_read draft) → first_unset [] draft.items ≡ None
    → text_region language wants start end file ≡ Ok (region_from parts (plain_read draft))
unfolding text_region pieces_read
read-there language wants start end file parts pieces draft cuts expands enters set =
    ap (λ r. parts_or r >>= λ ps. pieces_or (expansion (comments_of language.isa.name) ps) >>= λ found. pieces_read language wants found >>= λ read. Ok (region_from ps read)) cuts
    ∙ ap (λ r. pieces_or r >>= λ found. pieces_read language wants found >>= λ read. Ok (region_from parts read)) expands
    ∙ ap (λ r. (r >>= set_read) >>= λ read. Ok (region_from parts read)) enters
    ∙ ap (λ line. unless_at reason.SymbolUnset line (plain_read draft) >>= λ read. Ok (region_from parts read)) set

-- ---- the law

module _ (language : Language) (lawful : IsLanguage language) (wants : Wants) (region : Region) (items : List Instr) (plan : PlanValue) (printable : IsPrintable language wants region items plan) where
  abbrev comments : Comments
  comments = comments_of language.isa.name

  abbrev lines : List Printed
  lines = printing.entries (language.printed region.pairs) region.tags items plan.notes

  abbrev end_of_lines : List ℕ
  end_of_lines = line_end region.parts.before

  whole-parts : (is_whole_head plan.head ≡ true) × (list_all is_whole plan.notes ≡ true)
  whole-parts = and_parts (is_whole_head plan.head) (list_all is_whole plan.notes) printable.whole

  are-printed : AllByRecursion (IsPrinted language comments) lines
  are-printed = all-printed language comments region.pairs region.tags items plan.notes lawful printable.spelled printable.names printable.units

  are-noted : AllByRecursion (IsNoted language.isa) lines
  are-noted = all-said language region.pairs region.tags items plan.notes printable.names printable.marks printable.units whole-parts.1

  abbrev mask : ℕ
  mask = (head-said plan.head whole-parts.0).0

  mask-said : (number : ℕ) → note_said number (codes "region" ++ head_note plan.head) ≡ Some (of_region mask)
  mask-said = (head-said plan.head whole-parts.0).1

  few-lines : length lines ≤ most_items wants
  few-lines = let few = printable.few in omega (arith, length-entries (language.printed region.pairs) region.tags items plan.notes printable.each)

  concrete : list_all reads_concrete (map unmarked (printed_items lines)) ≡ true
  concrete = ap (list_all reads_concrete) (entries-unmarked (language.printed region.pairs) region.tags items plan.notes printable.each) ∙ all-read language items lawful printable.spelled

  -- what is read of it by itself
  read-alone : region_alone language wants (region_lines (head_note plan.head) end_of_lines lines) ≡ Ok (plain_read (drafted language.isa 2 (headed mask) lines are-noted))
  read-alone =
      region_drafted language wants (lawful.nothing []) (head_note plan.head) end_of_lines mask lines (head-inside plan.head) (mask-said 1) (is-line_end region.parts.before) are-printed are-noted few-lines concrete

  -- what is read of it so many lines further down
  read-down : (n : ℕ) → drafted language.isa (1 + n + 1) (headed mask) lines are-noted ≡ draft_down n (drafted language.isa 2 (headed mask) lines are-noted)
  read-down n =
      let sum : 1 + n + 1 ≡ 2 + n = omega arith in
      ap (λ k. drafted language.isa k (headed mask) lines are-noted) sum ∙ drafted-down language.isa 2 n (headed mask) lines are-noted refl

  module _ (start end old : List ℕ) (starts : list_all is_no_colon start ≡ true) (ends : list_all is_no_colon end ≡ true) (cuts : cut start end old ≡ Ok region.parts)
      (clear : IsClear comments region.parts (texts_of language items)) (statements : AllByRecursion IsStatement (texts_of language items)) where
    are-right : AllByRecursion (IsRight language clear.reading) lines
    are-right = all-right language clear.reading region.pairs region.tags items plan.notes lawful printable.spelled statements clear.unnamed whole-parts.1

    abbrev text : List ℕ
    text = region_lines (head_note plan.head) end_of_lines lines

    no-marker : (label : List ℕ) → list_all is_no_colon label ≡ true → (number : ℕ) → Rattle.sl_model.specs.Text.marker_numbers label number (Rattle.sl_model.specs.Text.whole_lines text) ≡ []
    no-marker label colons number =
        region-loud language comments label (head_note plan.head) end_of_lines number lines colons (head-inside plan.head) (is-line_end region.parts.before) are-printed
        (all-map (IsRight language clear.reading) (λ (p : Printed). list_all is_no_colon p.text ≡ true) lines (λ p right. right.statement.colons) are-right)
        (all-map (IsRight language clear.reading) IsLoud lines (λ p right. right.loud) are-right)

    cut-there : IsCutAgain start end text region.parts
    cut-there =
        cut-again start end old text region.parts cuts (no-marker start starts) (no-marker end ends)
        (λ rest. region-behind language comments (head_note plan.head) end_of_lines rest lines (head-inside plan.head) (is-line_end region.parts.before) are-printed)

    abbrev parts : Parts
    parts = record region.parts { body = text }

    -- the text before it is the same
    still-clear : IsClear comments parts (texts_of language items)
    still-clear = record {
      closed = clear.closed;
      reading = clear.reading;
      known = clear.known;
      defined = clear.defined;
      unnamed = clear.unnamed;
      room = clear.room;
    }

    given : IsGiven clear.reading.macros clear.reading.known (region_pieces region.parts.first (head_note plan.head) lines) (given_pieces region.parts.first (head_note plan.head) lines)
    given =
        region-given clear.reading.macros clear.reading.known region.parts.first (head_note plan.head) lines
        (all-map (IsRight language clear.reading) (IsReady clear.reading.macros clear.reading.known.aliases) lines (λ p right. ready language clear.reading p right) are-right)
        (subst (λ (ts : List (List ℕ)). clear.reading.known.spent + sum_of ([] ∷ ts) ≤ EXPANSION_SUM) (sym (entries-texts language region.pairs region.tags items plan.notes lawful printable.spelled printable.each)) clear.room)

    pieces-there : expansion comments parts ≡ Ok (given_pieces region.parts.first (head_note plan.head) lines)
    unfolding still-clear
    pieces-there =
        expanded comments parts (texts_of language items) still-clear (region_pieces region.parts.first (head_note plan.head) lines) (given_pieces region.parts.first (head_note plan.head) lines)
        (region-rows language (lawful.nothing []) (head_note plan.head) end_of_lines region.parts.first lines (head-inside plan.head) (is-line_end region.parts.before) are-printed
        (all-map (IsRight language clear.reading) (λ (p : Printed). IsStatement p.text) lines (λ p right. right.statement) are-right))
        given

    entered-there : with_entries language wants no_progress (entries (given_pieces region.parts.first (head_note plan.head) lines)) ≡ Ok (plain_read (draft_down (region.parts.first - 1) (drafted language.isa 2 (headed mask) lines are-noted)))
    entered-there =
        let low : 1 ≤ region.parts.first = cut-there.low in
        let sum : region.parts.first + 1 ≡ 1 + (region.parts.first - 1) + 1 = omega arith in
        region-entered language wants (lawful.nothing []) region.parts.first mask (head_note plan.head) lines are-noted
        (all-map (IsRight language clear.reading) (IsReadAgain language) lines (λ p right. read-again language clear.reading p right) are-right) (mask-said region.parts.first) few-lines
        ∙ ap (λ k. Ok (plain_read (drafted language.isa k (headed mask) lines are-noted))) sum
        ∙ ap (λ d. Ok (plain_read d)) (read-down (region.parts.first - 1))

    set-there : first_unset [] (draft_down (region.parts.first - 1) (drafted language.isa 2 (headed mask) lines are-noted)).items ≡ None
    set-there =
        ap (λ (d : Draft). first_unset [] d.items) (sym (read-down (region.parts.first - 1)))
        ∙ drafted-set language.isa (1 + (region.parts.first - 1) + 1) mask lines are-noted concrete

    pub reads-there : ReadsInPlace language wants start end region.parts (region_text (language.printed region.pairs) region.tags items plan end_of_lines) items
    unfolding region_text
    reads-there = record {
      read = plain_read (drafted language.isa 2 (headed mask) lines are-noted);
      alone = read-alone;
      same =
          drafted-same language.isa 2 (headed mask) lines are-noted
          ∙ entries-unmarked (language.printed region.pairs) region.tags items plan.notes printable.each;
      in_place =
          read-there language wants start end (region.parts.before ++ (text ++ region.parts.after)) parts (given_pieces region.parts.first (head_note plan.head) lines)
          (draft_down (region.parts.first - 1) (drafted language.isa 2 (headed mask) lines are-noted)) cut-there.is pieces-there entered-there set-there;
    }

pub all-in-place : (language : Language) → IsLanguage language → AreReadInPlace language
all-in-place language lawful wants start end old region items plan starts ends cuts printable clear statements =
    reads-there language lawful wants region items plan printable start end old starts ends cuts clear statements
