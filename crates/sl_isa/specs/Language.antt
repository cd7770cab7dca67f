-- The language of an architecture: its instructions, how they are read and printed, and what is
-- asked of these. Source: spellings are a profile of GNU as, one instruction a statement; those of
-- symbolic registers are this project's own.
use Rattle.std.specs.Prelude.{ℕ, Bool, true, false, not, ◌+◌, ◌==◌, ◌≤◌, ◌≡◌, List, [], ◌∷◌, ◌++◌, length, slice_index, None, Result, Ok, if◌then◌else◌}
use Rattle.std.specs.List.{list_all}
use Rattle.sl_model.specs.declared.text.Comments.{Comments}
use Rattle.sl_model.specs.declared.text.TokenKind.{TokenKind}
use Rattle.sl_model.specs.declared.text.TokenKind.TheVariants as kind
use Rattle.sl_model.specs.declared.register.Reg.{Reg}
use Rattle.sl_model.specs.declared.instruction.Instr.{Instr}
use Rattle.sl_model.specs.Text.{is_blank}
use Rattle.sl_model.specs.Token.{Lexeme, tokens_at}
use Rattle.sl_model.specs.Source.{operands, outputs}
use Rattle.sl_model.specs.Machine.{can_count}
use Rattle.sl_model.specs.Isa.{Isa}
use Rattle.sl_model.specs.Lawful.{IsValid, IsLawful}
use Rattle.sl_isa.specs.declared.reasons.FormReason.{FormReason}
use Rattle.sl_isa.specs.declared.arch.CounterOp.{CounterOp}
use Rattle.sl_isa.specs.Steps.{IsStep, Steps}
use Rattle.sl_isa.specs.Symbols.{Pair, with_pairs, have_pairs, is_named}

-- What an architecture's instructions are, how they are read and printed, and which of them make a
-- counter's steps.
pub record Language : Type 0 where
  pub isa : Isa
  -- the pairs of bank and name of the symbolic registers in words, as they stand
  pub pairs_in : List Lexeme → List Pair
  -- what words spell where symbolic registers have the numbers of these pairs, or the first reason
  -- why they spell none
  pub reads : List Pair → List Lexeme → Result Instr FormReason
  -- the one printed spelling of an instruction, with the names of these pairs
  pub printed : List Pair → Instr → List ℕ
  pub step_of : CounterOp → Reg → ℕ → Instr

-- ---- what is read

-- the pairs with those of words
abbrev pub pairs_behind : Language → List Pair → List Lexeme → List Pair
pairs_behind language pairs words = with_pairs pairs (language.pairs_in words)

-- what words spell where their pairs are added to some
abbrev pub read_behind : Language → List Pair → List Lexeme → Result Instr FormReason
read_behind language pairs words = language.reads (pairs_behind language pairs words) words

-- Have the pairs all those of the words?
abbrev pub knows_words : Language → List Pair → List Lexeme → Bool
knows_words language pairs words = have_pairs (language.pairs_in words) pairs

-- Is a register one of the machine, and no symbol?
abbrev pub is_concrete : Reg → Bool
is_concrete r = not r.symbolic

-- All registers of an instruction are the machine's.
pub record IsConcrete (i : Instr) : Type 0 where
  pub operands_concrete : list_all is_concrete (operands i) ≡ true
  pub outputs_concrete : list_all is_concrete (outputs i) ≡ true

-- All registers of an instruction are the machine's, or have the number of a pair of their bank.
pub record IsNamed (pairs : List Pair) (i : Instr) : Type 0 where
  pub operands_named : list_all (is_named pairs) (operands i) ≡ true
  pub outputs_named : list_all (is_named pairs) (outputs i) ≡ true

-- An instruction that was read from its words: it is one of the set, has no line and no tag yet, is
-- neither early nor late, and its registers are known.
pub record IsRead (isa : Isa) (pairs : List Pair) (i : Instr) : Type 0 where
  pub valid : IsValid isa i
  pub plain : (i.tag ≡ None) × (i.early ≡ false) × (i.late ≡ false) × (i.line ≡ 0)
  pub named : IsNamed pairs i

-- ---- what is printed

-- Is a token one that can stand in an instruction: no comment, and none
-- of the marks `;` and `:`?
abbrev pub is_operand_mark : List ℕ → Bool
is_operand_mark text =
    if slice_index text 0 == 59 then false else (if slice_index text 0 == 58 then false else true)

-- Is a token of this kind and text one?
abbrev pub is_of_instruction : TokenKind → List ℕ → Bool
is_of_instruction kind.Word text = true
is_of_instruction kind.Number text = true
is_of_instruction kind.Mark text = is_operand_mark text
is_of_instruction kind.Comment text = false

-- the same of a token as a whole
abbrev pub is_instruction_token : Lexeme → Bool
is_instruction_token token = is_of_instruction token.kind token.text

-- Does nothing stand in a text, or does a blank stand first?
abbrev pub is_behind : List ℕ → Bool
is_behind [] = true
is_behind (c ∷ text) = is_blank c

-- A text at a place of a line, with another one behind it, gives words of its own, and
-- these are read as an instruction, with the symbolic registers of these pairs alone.
pub record IsSpelledAt (language : Language) (pairs : List Pair) (comments : Comments)
    (text : List ℕ) (place : ℕ) (behind : List ℕ) (i : Instr) : Type 0 where
  pub words : List Lexeme
  pub tokens : tokens_at comments false place (text ++ behind)
      ≡ words ++ tokens_at comments false (place + length text) behind
  pub plain : list_all is_instruction_token words ≡ true
  pub known : knows_words language pairs words ≡ true
  pub read : language.reads pairs words ≡ Ok i

-- Is a byte no line feed?
abbrev pub is_no_feed : ℕ → Bool
is_no_feed c = not (c == 10)

-- an instruction without what its line says of it: its tag, its marks and the line's number
abbrev pub unmarked : Instr → Instr
unmarked i = record i { tag = None; early = false; late = false; line = 0 }

-- There are words that spell an instruction, its line, tag and marks aside, with the symbolic
-- registers of these pairs alone.
pub record IsSpelled (language : Language) (pairs : List Pair) (i : Instr) : Type 0 where
  pub words : List Lexeme
  pub known : knows_words language pairs words ≡ true
  pub read : language.reads pairs words ≡ Ok (unmarked i)

-- All instructions of a list are spelled.
abbrev pub AreSpelled : Language → List Pair → List Instr → Type 0
AreSpelled language pairs [] = Unit {0}
AreSpelled language pairs (i ∷ items) =
    IsSpelled language pairs i × AreSpelled language pairs items

-- The second of two instructions is the first one in other registers: all else is the same, it is
-- one of the set, so that it has as many registers, and they are the machine's.
pub record IsRenaming (isa : Isa) (i j : Instr) : Type 0 where
  pub same : record i { ins = j.ins; outs = j.outs } ≡ j
  pub valid : IsValid isa j
  pub concrete : IsConcrete j

-- What is asked of a language.
pub record IsLanguage (language : Language) : Type 0 where
  -- the instruction set is lawful
  pub set : IsLawful language.isa
  -- what is read is an instruction of the set
  pub read : (pairs : List Pair) (words : List Lexeme) (i : Instr)
      → knows_words language pairs words ≡ true → language.reads pairs words ≡ Ok i
      → IsRead language.isa pairs i
  -- and has at most seven symbolic registers
  pub few : (pairs : List Pair) (words : List Lexeme) (i : Instr)
      → knows_words language pairs words ≡ true → language.reads pairs words ≡ Ok i
      → length (language.pairs_in words) ≤ 7
  -- further pairs change nothing
  pub more : (pairs others : List Pair) (words : List Lexeme)
      → knows_words language pairs words ≡ true
      → language.reads (pairs ++ others) words ≡ language.reads pairs words
  -- what is spelled is spelled in other registers too, the machine's: no pairs are needed for these
  pub renamed : (pairs : List Pair) (i j : Instr) → IsSpelled language pairs i
      → IsRenaming language.isa i j → IsSpelled language [] j
  -- no words are no instruction
  pub nothing : (pairs : List Pair) (i : Instr) → language.reads pairs [] ≡ Ok i → ⊥
  -- what is printed of an instruction that was read is read as the
  -- same, wherever it stands on a line
  pub again : (pairs : List Pair) (words : List Lexeme) (i : Instr)
      → knows_words language pairs words ≡ true → language.reads pairs words ≡ Ok i
      → (comments : Comments) (place : ℕ) (behind : List ℕ)
      → is_behind behind ≡ true
      → IsSpelledAt language pairs comments (language.printed pairs i) place behind i
  -- and it stands on one line
  pub one_line : (pairs : List Pair) (words : List Lexeme) (i : Instr)
      → knows_words language pairs words ≡ true → language.reads pairs words ≡ Ok i
      → list_all is_no_feed (language.printed pairs i) ≡ true
  -- an instruction without symbolic registers is printed alike with any names
  pub plain_printed : (pairs : List Pair) (i : Instr) → IsConcrete i
      → language.printed pairs i ≡ language.printed [] i
  -- printing looks at neither line, tag nor marks
  pub unmarked_printed : (pairs : List Pair) (i : Instr)
      → language.printed pairs (unmarked i) ≡ language.printed pairs i
  -- the instruction of a step makes it
  pub steps : (op : CounterOp) (counter : Reg) (line : ℕ)
      → can_count language.isa.name counter ≡ true → IsStep op
      → Steps language.isa op counter line (language.step_of op counter line)
