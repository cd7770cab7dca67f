-- A printed region, line by line.
use Rattle.std.proofs.Common.{◌≡◌, ℕ, ◌+◌, ◌<◌, ◌≤◌, ◌-◌, nat_lt, slice_get, Result, Bool, true, false, cond, not, ◌&&◌, eqb, List, [], ◌∷◌, ◌++◌, length, map, codes, None, Some, Ok, inl, inr, refl, ap, sym, ◌∙◌, subst, arith, append_assoc, append-nil, length-append, lt-ltb}
use Rattle.std.specs.List.{list_all, AllByRecursion}
use Rattle.std.proofs.lemmas.List.Folds.{list_all-append}
use Rattle.sl_model.specs.declared.instruction.Instr.{Instr}
use Rattle.sl_model.specs.declared.text.Comments.{Comments}
use Rattle.sl_model.specs.Text.{whole_lines, without_end, is_line_end, prepend}
use Rattle.sl_model.specs.Token.{Lexeme, tokens, open_behind}
use Rattle.sl_model.specs.Exec.{has_access}
use Rattle.sl_model.specs.Isa.{Isa}
use Rattle.sl_model.specs.ResultSteps.{◌>>=◌}
use Rattle.sl_isa.specs.Arch.{comments_of}
use Rattle.sl_isa.specs.Language.{Language, is_no_feed, knows_words, unmarked}
use Rattle.sl_isa.specs.Symbols.{Pair}
use Rattle.sl_isa.proofs.ForCallers.{with_pairs-known}
use Rattle.asm_reader.specs.declared.reasons.Reason.TheVariants as reason
use Rattle.asm_reader.specs.declared.reasons.Wants.{Wants}
use Rattle.asm_reader.specs.Notes.{Remark, Said, of_item, of_region, note_said}
use Rattle.asm_reader.specs.declared.reasons.Refusal.{Refusal}
use Rattle.std.proofs.lemmas.List.{length-map}
use Rattle.asm_printer.proofs.NoteWords.{IsSaid}
use Rattle.asm_reader.specs.Lines.{words_of, note_in, note_text, statement_at, on_line, outside, statements_of}
use Rattle.asm_reader.specs.Statements.{Statement}
use Rattle.asm_reader.specs.Drafts.{Draft, refused, no_draft, most_items, longer, with_item, with_last, marked, with_remark, may_say, with_said, with_noted}
use Rattle.asm_reader.specs.Reading.{Progress, no_progress, right_note, instr_or, instr_of, pairs_after, said_by, with_statement, with_statements, unless_at, set_read, region_alone}
use Rattle.asm_reader.specs.Unset.{first_unset}
use Rattle.asm_printer.specs.Lines.{Printed, IsPrinted, IsLineEnd, item_line, item_lines, region_lines, printed_items, is_inside_line}
use Rattle.asm_printer.proofs.Concrete.{reads_concrete, read-unmarked, none-unset}
use Rattle.asm_reader.proofs.ForCallers.{named_draft, no_statements, statement_read, parts_read, no_lines_read, line_read}
use Rattle.asm_printer.proofs.LineTokens.{line_comment, IsLine, line_statements, line_words, line_closed, item_tokens, head_tokens}
use Rattle.std.proofs.lemmas.Bool.Decides.{nat_tests}
use Rattle.std.proofs.lemmas.Bool.{and_parts, not-true}

-- ---- lines and their ends

inside_no_feed : (b c : Bool) → cond b false (not c) ≡ true → (b ≡ false) × (c ≡ false)
inside_no_feed true c e = cc
inside_no_feed false c e = (refl, not-true _ e)

split_at_end : (end rest : List ℕ) → IsLineEnd end → whole_lines (end ++ rest) ≡ end ∷ whole_lines rest
unfolding whole_lines
split_at_end end rest (inl e) = subst (λ v. whole_lines (v ++ rest) ≡ v ∷ whole_lines rest) (sym e) refl
split_at_end end rest (inr e) = subst (λ v. whole_lines (v ++ rest) ≡ v ∷ whole_lines rest) (sym e) refl

-- a line with its end is the first of its text
line_split : (line end rest : List ℕ) → list_all is_no_feed line ≡ true → IsLineEnd end → whole_lines ((line ++ end) ++ rest) ≡ (line ++ end) ∷ whole_lines rest
unfolding whole_lines
line_split [] end rest h ends = split_at_end end rest ends
line_split (c ∷ line) end rest h ends =
    let both = and_parts (is_no_feed c) (list_all is_no_feed line) h in
    let more = whole_lines ((line ++ end) ++ rest) in
    ap (λ b. cond b ((c ∷ []) ∷ more) (prepend c more)) (not-true _ both.0) ∙ ap (prepend c) (line_split line end rest both.1 ends)

ended : (end : List ℕ) → IsLineEnd end → without_end end ≡ []
unfolding without_end
ended end (inl e) = ap without_end e
ended end (inr e) = ap without_end e

begins_no_end : (c : ℕ) (rest : List ℕ) → is_inside_line c ≡ true → is_line_end (c ∷ rest) ≡ false
begins_no_end c [] h = (inside_no_feed (eqb c 10) (eqb c 13) h).0
begins_no_end c (b ∷ []) h = ap (λ x. x && eqb b 10) (inside_no_feed (eqb c 10) (eqb c 13) h).1
begins_no_end c (b ∷ d ∷ rest) h = refl

-- behind bytes that stand inside a line, its end goes
end_gone : (line end : List ℕ) → list_all is_inside_line line ≡ true → IsLineEnd end → without_end (line ++ end) ≡ line
unfolding without_end
end_gone [] end h ends = ended end ends
end_gone (c ∷ line) end h ends =
    let both = and_parts (is_inside_line c) (list_all is_inside_line line) h in
    ap (λ b. cond b [] (c ∷ without_end (line ++ end))) (begins_no_end c (line ++ end) both.0) ∙ ap (λ l. c ∷ l) (end_gone line end both.1 ends)

long_no_end : (c : ℕ) (rest : List ℕ) → 2 ≤ length rest → is_line_end (c ∷ rest) ≡ false
long_no_end c [] long = absurd (omega arith)
long_no_end c (b ∷ []) long = absurd (omega arith)
long_no_end c (b ∷ d ∷ rest) long = refl

-- what stands before two bytes is no part of an end
front_kept : (front tail : List ℕ) → 2 ≤ length tail → without_end (front ++ tail) ≡ front ++ without_end tail
unfolding without_end
front_kept [] tail long = refl
front_kept (c ∷ front) tail long =
    let longer : 2 ≤ length (front ++ tail) = omega (arith, length-append front tail) in
    ap (λ b. cond b [] (c ∷ without_end (front ++ tail))) (long_no_end c (front ++ tail) longer) ∙ ap (λ l. c ∷ l) (front_kept front tail long)

no_feed_inside : (line : List ℕ) → list_all is_inside_line line ≡ true → list_all is_no_feed line ≡ true
no_feed_inside [] h = refl
no_feed_inside (c ∷ line) h =
    let both = and_parts (is_inside_line c) (list_all is_inside_line line) h in
    ap (λ b. not b && list_all is_no_feed line) (inside_no_feed (eqb c 10) (eqb c 13) both.0).0 ∙ no_feed_inside line both.1

-- ---- the text of a line

all_inside : (c d : List ℕ) → list_all is_inside_line c ≡ true → list_all is_inside_line d ≡ true → list_all is_inside_line (c ++ d) ≡ true
all_inside c d h k = list_all-append is_inside_line c d ∙ ap (λ b. b && list_all is_inside_line d) h ∙ k

-- a line with its end is the first of its text, and stands before the end
pub record IsWhole (line end : List ℕ) : Type 0 where
  pub first : (rest : List ℕ) → whole_lines ((line ++ end) ++ rest) ≡ (line ++ end) ∷ whole_lines rest
  pub before : without_end (line ++ end) ≡ line

-- such a line, of a front without line feed and of a tail of two bytes and more
whole_line : (front tail end : List ℕ) → list_all is_no_feed front ≡ true → 2 ≤ length tail → list_all is_inside_line tail ≡ true → IsLineEnd end → IsWhole (front ++ tail) end
whole_line front tail end h long inside ends =
    let longer : 2 ≤ length (tail ++ end) = omega (arith, length-append tail end) in
    let feeds : list_all is_no_feed (front ++ tail) ≡ true = list_all-append is_no_feed front tail ∙ ap (λ b. b && list_all is_no_feed tail) h ∙ no_feed_inside tail inside in
    record {
      first = λ rest. line_split (front ++ tail) end rest feeds ends;
      before = ap without_end (append_assoc front tail end) ∙ front_kept front (tail ++ end) longer ∙ ap (λ v. front ++ v) (end_gone tail end inside ends);
    }

-- the lines of a region without their ends
abbrev pub head_of : List ℕ → List ℕ
head_of note = codes "        // @slothy:region" ++ note

abbrev pub body_of : Printed → List ℕ
body_of printed = codes "        " ++ (printed.text ++ (codes " // @slothy:" ++ printed.note))

pub head_whole : (note end : List ℕ) → list_all is_inside_line note ≡ true → IsLineEnd end → IsWhole (head_of note) end
head_whole note end inside ends = whole_line [] (head_of note) end refl (omega arith) inside ends

pub body_whole : (language : Language) (comments : Comments) (printed : Printed) (end : List ℕ) → IsPrinted language comments printed → IsLineEnd end → IsWhole (body_of printed) end
body_whole language comments printed end is ends = whole_line (codes "        " ++ printed.text) (codes " // @slothy:" ++ printed.note) end is.text (omega arith) is.note ends

-- ---- the note of a line

-- the last token
last_token : (words : List Lexeme) (token : Lexeme) → slice_get (words ++ token ∷ []) (length (words ++ token ∷ []) - 1) ≡ Some token
last_token words token =
    let place : length (words ++ token ∷ []) - 1 ≡ length words = omega (arith, length-append words (token ∷ [])) in
    ap (slice_get (words ++ token ∷ [])) place ∙ behind words
  where
    behind : (words : List Lexeme) → slice_get (words ++ token ∷ []) (length words) ≡ Some token
    behind [] = refl
    behind (first ∷ words) = behind words

not_less : (n most : ℕ) → most ≤ n → nat_lt n most ≡ false
not_less n most h = grind (arith, nat_tests)

note_there : (place : ℕ) (note : List ℕ) → note_in (Some (line_comment place (codes " @slothy:" ++ note))) ≡ Some note
note_there place note = refl

-- ---- what each line adds

-- what is read last is the last item, with its tag and its marks
marked-last : (f : Instr → Instr) (items : List Instr) (i : Instr) → unmarked (f i) ≡ unmarked i → map unmarked (with_last f (items ++ i ∷ [])) ≡ map unmarked items ++ unmarked i ∷ []
unfolding with_last
marked-last f [] i e = ap (λ j. j ∷ []) e
marked-last f (a ∷ []) i e = ap (λ j. unmarked a ∷ j ∷ []) e
marked-last f (a ∷ b ∷ items) i e = ap (λ more. unmarked a ∷ more) (marked-last f (b ∷ items) i e)

-- A region is read as these items, their lines, tags and marks aside, without symbolic registers.
pub record ReadsAs (read : Result Progress Refusal) (items : List Instr) : Type 0 where
  pub new : Progress
  pub is : read ≡ Ok new
  pub same : map unmarked new.draft.items ≡ items
  pub plain : new.pairs ≡ []

-- a draft without symbolic registers
abbrev pub plain_read : Draft → Progress
plain_read draft = record { draft = draft; pairs = [] }

-- the note of a line that says something of its instruction
abbrev pub IsNoted : Isa → Printed → Type 0
IsNoted isa printed = IsSaid (has_access (isa.info printed.item.form)) printed.note

-- The draft behind the lines of instructions, of which the first has a number.
unfoldable pub drafted : (isa : Isa) → ℕ → Draft → (printed : List Printed) → AllByRecursion (IsNoted isa) printed → Draft
drafted isa number draft [] noted = draft
drafted isa number draft (first ∷ more) noted = drafted isa (number + 1) (with_remark (longer (has_access (isa.info first.item.form)) number draft first.item) (noted.0.remark number)) more noted.1

-- the draft behind the first line of a region, with its mask
abbrev pub headed : ℕ → Draft
headed mask = with_said no_draft (Some (of_region mask))

-- a line adds its instruction
item_same : (isa : Isa) (number : ℕ) (draft : Draft) (first : Printed) (noted : IsNoted isa first)
    → map unmarked (with_remark (longer (has_access (isa.info first.item.form)) number draft first.item) (noted.remark number)).items ≡ map unmarked draft.items ++ unmarked first.item ∷ []
item_same isa number draft first noted = marked-last (marked draft.tags (noted.remark number)) draft.items (record first.item { line = number }) refl

pub item_counted : (isa : Isa) (number : ℕ) (draft : Draft) (first : Printed) (noted : IsNoted isa first)
    → length (with_remark (longer (has_access (isa.info first.item.form)) number draft first.item) (noted.remark number)).items ≡ length draft.items + 1
item_counted isa number draft first noted =
    let next : Draft = with_remark (longer (has_access (isa.info first.item.form)) number draft first.item) (noted.remark number) in
    sym (length-map next.items unmarked) ∙ ap length (item_same isa number draft first noted)
    ∙ length-append (map unmarked draft.items) (unmarked first.item ∷ []) ∙ ap (λ n. n + 1) (length-map draft.items unmarked)

-- so that it has their instructions
pub drafted-same : (isa : Isa) (number : ℕ) (draft : Draft) (printed : List Printed) (noted : AllByRecursion (IsNoted isa) printed)
    → map unmarked (drafted isa number draft printed noted).items ≡ map unmarked draft.items ++ map unmarked (printed_items printed)
unfolding drafted
drafted-same isa number draft [] noted = sym (append-nil (map unmarked draft.items))
drafted-same isa number draft (first ∷ more) noted =
    let next : Draft = with_remark (longer (has_access (isa.info first.item.form)) number draft first.item) (noted.0.remark number) in
    drafted-same isa (number + 1) next more noted.1
    ∙ ap (λ l. l ++ map unmarked (printed_items more)) (item_same isa number draft first noted.0)
    ∙ append_assoc (map unmarked draft.items) (unmarked first.item ∷ []) (map unmarked (printed_items more))

-- which read no symbolic register
pub drafted-set : (isa : Isa) (number mask : ℕ) (printed : List Printed) (noted : AllByRecursion (IsNoted isa) printed)
    → list_all reads_concrete (map unmarked (printed_items printed)) ≡ true → first_unset [] (drafted isa number (headed mask) printed noted).items ≡ None
drafted-set isa number mask printed noted concrete =
    let items : List Instr = (drafted isa number (headed mask) printed noted).items in
    none-unset [] items (sym (read-unmarked items) ∙ ap (list_all reads_concrete) (drafted-same isa number (headed mask) printed noted) ∙ concrete)

-- the text of a line with its end
pub line_text : (printed : Printed) (end : List ℕ) → item_line end printed ≡ body_of printed ++ end
line_text printed end = ap (λ v. codes "        " ++ v) (sym (append_assoc printed.text (codes " // @slothy:" ++ printed.note) end))

module _ (language : Language) (wants : Wants) (some : (i : Instr) → language.reads [] [] ≡ Ok i → ⊥) where
  abbrev pub comments : Comments
  comments = comments_of language.isa.name

  -- the note behind a line's words
  note_behind : (line : ℕ) (words : List Lexeme) (place : ℕ) (note : List ℕ) (said : Said) → note_said line note ≡ Some said
      → said_by line (note_text (words ++ line_comment place (codes " @slothy:" ++ note) ∷ [])) ≡ Ok (Some said)
  note_behind line words place note said is =
      let tokens : List Lexeme = words ++ line_comment place (codes " @slothy:" ++ note) ∷ [] in
      ap (said_by line) (ap note_in (last_token words (line_comment place (codes " @slothy:" ++ note))) ∙ note_there place note)
      ∙ ap (right_note line) is

  -- an instruction for which there is room
  item_added : (accesses : Bool) (line : ℕ) (draft : Draft) (i : Instr) → length draft.items < most_items wants → with_item wants accesses line draft i ≡ Ok (longer accesses line draft i)
  item_added accesses line draft i room =
      ap (λ b. cond b (Ok (longer accesses line draft i)) (refused line (reason.TooMany (most_items wants)))) (lt-ltb (length draft.items) (most_items wants) room)

  -- words of an instruction without symbolic registers
  words_read : (line : ℕ) (words : List Lexeme) (i : Instr) → knows_words language [] words ≡ true → language.reads [] words ≡ Ok i → instr_of language [] line words ≡ Ok (Some i)
  words_read line [] i known read = absurd (some i read)
  words_read line (first ∷ words) i known read =
      ap (instr_or line (first ∷ words)) (ap (λ pairs. language.reads pairs (first ∷ words)) (with_pairs-known [] (language.pairs_in (first ∷ words)) known) ∙ read)

  -- and they have no names
  no_names : (words : List Lexeme) → knows_words language [] words ≡ true → pairs_after language [] words ≡ []
  no_names [] known = refl
  no_names (first ∷ words) known = with_pairs-known [] (language.pairs_in (first ∷ words)) known

  -- a statement of an instruction, with its note
  pub statement_added : (draft : Draft) (statement : Statement) (i : Instr) (remark : Remark) → knows_words language [] statement.words ≡ true → language.reads [] statement.words ≡ Ok i
      → said_by statement.line statement.note ≡ Ok (Some (of_item remark)) → may_say (has_access (language.isa.info i.form)) (Some (of_item remark)) ≡ true
      → length draft.items < most_items wants
      → with_statement language wants (plain_read draft) statement ≡ Ok (plain_read (with_remark (longer (has_access (language.isa.info i.form)) statement.line draft i) remark))
  statement_added draft statement i remark known read said may room =
      let line = statement.line in
      let accesses = has_access (language.isa.info i.form) in
      let added : with_noted wants accesses line draft (Some (of_item remark)) i ≡ Ok (with_remark (longer accesses line draft i) remark) =
      ap (λ b. cond b (with_item wants accesses line draft i >>= λ more. Ok (with_said more (Some (of_item remark)))) (refused line reason.TagBad)) may
      ∙ ap (λ r. r >>= λ more. Ok (with_said more (Some (of_item remark)))) (item_added accesses line draft i room) in
      parts_read language wants (plain_read draft) statement (Some i) (Some (of_item remark)) (words_read line statement.words i known read) said
      ∙ ap (λ r. r >>= λ more. Ok (named_draft language (plain_read draft) statement more)) added
      ∙ ap (λ (pairs : List Pair). Ok (record { draft = with_remark (longer accesses line draft i) remark; pairs = pairs })) (no_names statement.words known)

  -- and one without words, of which the note is of the region
  pub head_added : (draft : Draft) (statement : Statement) (mask : ℕ) → draft.invoked ≡ false → statement.words ≡ [] → said_by statement.line statement.note ≡ Ok (Some (of_region mask))
      → with_statement language wants (plain_read draft) statement ≡ Ok (plain_read (with_said draft (Some (of_region mask))))
  head_added draft statement mask free are said =
      parts_read language wants (plain_read draft) statement None (Some (of_region mask)) (ap (instr_of language [] statement.line) are) said
      ∙ ap (λ b. cond (not b) (Ok (with_said draft (Some (of_region mask)))) (refused statement.line reason.TagBad) >>= λ more. Ok (named_draft language (plain_read draft) statement more)) free
      ∙ ap (λ (pairs : List Pair). Ok (record { draft = with_said draft (Some (of_region mask)); pairs = pairs })) (ap (pairs_after language []) are)

  -- a line of words and a comment
  line_added : (number : ℕ) (draft more : Progress) (line end : List ℕ) (lines : List (List ℕ)) (words : List Lexeme) (note : List ℕ) → IsWhole line end → (is : IsLine comments line words note)
      → with_statement language wants draft (statement_at number (words ++ line_comment is.place (codes " @slothy:" ++ note) ∷ [])) ≡ Ok more
      → with_statements language wants draft (statements_of comments false number ((line ++ end) ∷ lines)) ≡ with_statements language wants more (statements_of comments false (number + 1) lines)
  line_added number draft more line end lines words note whole is added =
      let statement : Statement = statement_at number (words ++ line_comment is.place (codes " @slothy:" ++ note) ∷ []) in
      let all : with_statements language wants draft (on_line number (outside false (tokens comments false (without_end (line ++ end))))) ≡ Ok more =
      ap (λ text. with_statements language wants draft (on_line number (tokens comments false text))) whole.before
      ∙ ap (λ each. with_statements language wants draft (map (statement_at number) each)) (line_statements comments line words note is)
      ∙ statement_read language wants draft more statement [] added
      ∙ no_statements language wants more in
      line_read language wants comments false number draft more (line ++ end) lines all
      ∙ ap (λ text. with_statements language wants more (statements_of comments (open_behind false (tokens comments false text)) (number + 1) lines)) whole.before
      ∙ ap (λ b. with_statements language wants more (statements_of comments b (number + 1) lines)) (line_closed comments line words note is)

  -- the lines of instructions
  items_added : (end : List ℕ) (number : ℕ) (draft : Draft) (printed : List Printed) → IsLineEnd end → AllByRecursion (IsPrinted language comments) printed
      → (noted : AllByRecursion (IsNoted language.isa) printed) → length draft.items + length printed ≤ most_items wants
      → with_statements language wants (plain_read draft) (statements_of comments false number (whole_lines (item_lines end printed))) ≡ Ok (plain_read (drafted language.isa number draft printed noted))
  unfolding item_lines whole_lines drafted
  items_added end number draft [] ends are noted room = no_lines_read language wants comments false number (plain_read draft)
  items_added end number draft (first ∷ more) ends are noted room =
      let remark = noted.0.remark number in
      let next : Draft = with_remark (longer (has_access (language.isa.info first.item.form)) number draft first.item) remark in
      let whole = body_whole language comments first end are.0 ends in
      let spelled = are.0.spelled in
      let lines = whole_lines (item_lines end more) in
      let is = item_tokens language language.isa.name first.text first.note first.item spelled in
      let tokens = spelled.words ++ line_comment is.place (codes " @slothy:" ++ first.note) ∷ [] in
      let words : words_of tokens ≡ spelled.words = line_words comments (body_of first) spelled.words first.note is in
      let count = item_counted language.isa number draft first (noted.0) in
      let room_here : length draft.items < most_items wants = omega arith in
      let fit : length next.items + length more ≤ most_items wants = omega (arith, count) in
      ap (λ text. with_statements language wants (plain_read draft) (statements_of comments false number (whole_lines (text ++ item_lines end more)))) (line_text first end)
      ∙ ap (λ ls. with_statements language wants (plain_read draft) (statements_of comments false number ls)) (whole.first (item_lines end more))
      ∙ line_added number (plain_read draft) (plain_read next) (body_of first) end lines spelled.words first.note whole is
      (statement_added draft (statement_at number tokens) first.item remark
      (subst (λ ws. knows_words language [] ws ≡ true) (sym words) spelled.known) (ap (language.reads []) words ∙ spelled.read)
      (note_behind number spelled.words is.place first.note (of_item remark) (noted.0.said number)) (noted.0.allowed number) room_here)
      ∙ items_added end (number + 1) next more ends are.1 noted.1 fit

  -- the whole region
  pub region_drafted : (note end : List ℕ) (mask : ℕ) (printed : List Printed) → list_all is_inside_line note ≡ true → note_said 1 (codes "region" ++ note) ≡ Some (of_region mask) → IsLineEnd end
      → AllByRecursion (IsPrinted language comments) printed → (noted : AllByRecursion (IsNoted language.isa) printed)
      → length printed ≤ most_items wants → list_all reads_concrete (map unmarked (printed_items printed)) ≡ true
      → region_alone language wants (region_lines note end printed) ≡ Ok (plain_read (drafted language.isa 2 (headed mask) printed noted))
  unfolding region_alone
  region_drafted note end mask printed inside says ends are noted room concrete =
      let whole = head_whole note end inside ends in
      let is = head_tokens language.isa.name note in
      let fit : 0 + length printed ≤ most_items wants = omega arith in
      let draft : Draft = drafted language.isa 2 (headed mask) printed noted in
      let read : with_statements language wants no_progress (statements_of comments false 1 (whole_lines (region_lines note end printed))) ≡ Ok (plain_read draft) =
      ap (λ ls. with_statements language wants no_progress (statements_of comments false 1 ls)) (whole.first (item_lines end printed))
      ∙ line_added 1 no_progress (plain_read (headed mask)) (head_of note) end (whole_lines (item_lines end printed)) [] (codes "region" ++ note) whole is
      (head_added no_draft (statement_at 1 (line_comment is.place (codes " @slothy:region" ++ note) ∷ [])) mask refl (line_words comments (head_of note) [] (codes "region" ++ note) is)
      (note_behind 1 [] is.place (codes "region" ++ note) (of_region mask) says))
      ∙ items_added end 2 (headed mask) printed ends are noted fit in
      ap (λ r. r >>= set_read) read ∙ ap (λ line. unless_at reason.SymbolUnset line (plain_read draft)) (drafted-set language.isa 2 mask printed noted concrete)

  pub region_added : (note end : List ℕ) (mask : ℕ) (printed : List Printed) → list_all is_inside_line note ≡ true → note_said 1 (codes "region" ++ note) ≡ Some (of_region mask) → IsLineEnd end
      → AllByRecursion (IsPrinted language comments) printed → AllByRecursion (IsNoted language.isa) printed
      → length printed ≤ most_items wants → list_all reads_concrete (map unmarked (printed_items printed)) ≡ true → ReadsAs (region_alone language wants (region_lines note end printed)) (map unmarked (printed_items printed))
  region_added note end mask printed inside says ends are noted room concrete = record {
    new = plain_read (drafted language.isa 2 (headed mask) printed noted);
    is = region_drafted note end mask printed inside says ends are noted room concrete;
    same = drafted-same language.isa 2 (headed mask) printed noted;
    plain = refl;
  }
