-- The words of a statement, its labels and its fields.
use Rattle.std.proofs.Common.{◌≡◌, ℕ, suc, ◌+◌, ◌-◌, ◌<◌, ◌≤◌, Bool, true, false, not, cond, ◌||◌, ◌&&◌, ⊎_elim, ne_eqb, List, [], ◌∷◌, ◌++◌, length, map, filter, take, drop, slice_range, get_or, refl, ap, sym, ◌∙◌, arith, append_assoc, append-nil, take-append-drop, eqb, eqb-true, eq-eqb, Option, Some, None, MatchOption, Bor, Result, Ok, Err, OnOk}
use Rattle.std.specs.Prelude.{⊤}
use Rattle.std.proofs.lemmas.List.{take_all, take_more, take_rest, drop_more, map-append}
use Rattle.std.proofs.lemmas.List.Folds.{list_any-append, list_all-map}
use Rattle.std.specs.List.{list_any, list_all}
use Rattle.std.specs.Str.{bytes_eq}
use Rattle.std.specs.declared.vec.Vec.{Vec}
use Rattle.std.proofs.lemmas.Slice.Eq.{bytes_eq-Decides}
use Rattle.std.proofs.lemmas.Bool.{cases_Bool}
use Rattle.std.proofs.Math.ListN.{drop_of_length-le}
use Rattle.sl_model.specs.Token.{Lexeme}
use Rattle.sl_text.specs.Tokens.{token_value}
use Rattle.sl_text.specs.declared.token.Token.{Token}
use Rattle.sl_model.specs.TokenTests.{marks, is_word}
use Rattle.macro_expand.specs.Words.{without_gaps, end_of, last_end, span, is_label, divided, before_first, between, between_commas, arguments, is_empty, names_of, is_among, are_different, if_different, is_word_or_comma, are_filled, are_names}
use Rattle.macro_expand.specs.Spelled.{lexemes}

gap_step : (b : Bool) (token : Token) (tokens : List Token) → cond b (lexemes tokens) (token_value token ∷ lexemes tokens) ≡ lexemes (cond (not b) (token ∷ tokens) tokens)
gap_step true token tokens = refl
gap_step false token tokens = refl

-- the words are the tokens that are no gaps
pub gaps-filtered : (tokens : List Token) → lexemes (filter (λ t. not (marks 10 (token_value t))) tokens) ≡ without_gaps (lexemes tokens)
unfolding without_gaps
gaps-filtered [] = refl
gaps-filtered (token ∷ tokens) =
    sym (ap (λ words. cond (marks 10 (token_value token)) words (token_value token ∷ words)) (sym (gaps-filtered tokens))
    ∙ gap_step (marks 10 (token_value token)) token (filter (λ t. not (marks 10 (token_value t))) tokens))

-- ---- the first and the last

one_first : (tokens : List Token) (d : Token) → 1 ≤ length tokens → tokens ≡ get_or tokens 0 d ∷ drop 1 tokens
one_first [] d long = absurd (omega arith)
one_first (a ∷ tokens) d long = refl

two_first : (tokens : List Token) (d : Token) → 2 ≤ length tokens → tokens ≡ get_or tokens 0 d ∷ get_or tokens 1 d ∷ drop 2 tokens
two_first [] d long = absurd (omega arith)
two_first (a ∷ []) d long = absurd (omega arith)
two_first (a ∷ b ∷ tokens) d long = refl

pub last-more : (last : Lexeme) (tokens : List Token) (d : Token) (all : ℕ) → 1 ≤ length tokens → last_end last (lexemes tokens) ≡ all
    → last_end (token_value (get_or tokens 0 d)) (lexemes (take (length tokens - 1) (drop 1 tokens))) ≡ all
unfolding last_end
last-more last tokens d all long so_far =
    ap (λ ts. last_end (token_value (get_or tokens 0 d)) (lexemes ts)) (take_rest tokens 1)
    ∙ sym (ap (λ ts. last_end last (lexemes ts)) (one_first tokens d long)) ∙ so_far

pub last-none : (last : Lexeme) (tokens : List Token) (all : ℕ) → length tokens < 1 → last_end last (lexemes tokens) ≡ all → end_of last ≡ all
unfolding last_end
last-none last [] all few so_far = so_far
last-none last (a ∷ tokens) all few so_far = absurd (omega arith)

pub span-none : (text : List ℕ) (tokens : List Token) → length tokens < 1 → [] ≡ span text (lexemes tokens)
span-none text [] few = refl
span-none text (a ∷ tokens) few = absurd (omega arith)

pub span-some : (text : List ℕ) (tokens : List Token) (d : Token) → 1 ≤ length tokens
    → slice_range text (get_or tokens 0 d).start (last_end (token_value (get_or tokens 0 d)) (lexemes (take (length tokens - 1) (drop 1 tokens)))) ≡ span text (lexemes tokens)
span-some text tokens d long =
    ap (λ ts. slice_range text (get_or tokens 0 d).start (last_end (token_value (get_or tokens 0 d)) (lexemes ts))) (take_rest tokens 1)
    ∙ sym (ap (λ ts. span text (lexemes ts)) (one_first tokens d long))

-- the same, with the end by its equation
pub span-from : (text : List ℕ) (tokens : List Token) (d : Token) (out : List ℕ) (finish : ℕ) → 1 ≤ length tokens
    → finish ≡ last_end (token_value (get_or tokens 0 d)) (lexemes (take (length tokens - 1) (drop 1 tokens)))
    → out ≡ slice_range text (get_or tokens 0 d).start finish → out ≡ span text (lexemes tokens)
span-from text tokens d out finish long is out_is = out_is ∙ ap (slice_range text (get_or tokens 0 d).start) is ∙ span-some text tokens d long

-- ---- labels

divided-two : (behind : Bool) (text : List ℕ) (tokens : List Token) (d : Token) (b : Bool) → 2 ≤ length tokens → is_label (token_value (get_or tokens 0 d)) (token_value (get_or tokens 1 d)) ≡ b
    → divided behind text (lexemes tokens) ≡ cond b (span text (lexemes (take 2 tokens)) ∷ divided true text (lexemes (drop 2 tokens))) (span text (lexemes tokens) ∷ [])
unfolding divided
divided-two behind text [] d b long is = absurd (omega arith)
divided-two behind text (a ∷ []) d b long is = absurd (omega arith)
divided-two behind text (first ∷ colon ∷ tokens) d b long is =
    ap (λ c. cond c (span text (lexemes (first ∷ colon ∷ [])) ∷ divided true text (lexemes tokens)) (span text (lexemes (first ∷ colon ∷ tokens)) ∷ [])) is

-- one label more
pub divided-label : (behind : Bool) (text : List ℕ) (tokens : List Token) (d : Token) (before after whole : List (List ℕ)) → 2 ≤ length tokens
    → is_label (token_value (get_or tokens 0 d)) (token_value (get_or tokens 1 d)) ≡ true
    → after ≡ before ++ span text (lexemes (take 2 tokens)) ∷ []
    → before ++ divided behind text (lexemes tokens) ≡ whole
    → after ++ divided true text (lexemes (take (length tokens - 2) (drop 2 tokens))) ≡ whole
divided-label behind text tokens d before after whole long is added so_far =
    ap (λ ts. after ++ divided true text (lexemes ts)) (take_rest tokens 2)
    ∙ ap (λ v. v ++ divided true text (lexemes (drop 2 tokens))) added
    ∙ append_assoc before (span text (lexemes (take 2 tokens)) ∷ []) (divided true text (lexemes (drop 2 tokens)))
    ∙ ap (λ v. before ++ v) (sym (divided-two behind text tokens d true long is)) ∙ so_far

-- the last statement, which begins with no label
pub divided-plain : (behind : Bool) (text : List ℕ) (tokens : List Token) (d : Token) (before after whole : List (List ℕ)) → 2 ≤ length tokens
    → is_label (token_value (get_or tokens 0 d)) (token_value (get_or tokens 1 d)) ≡ false
    → after ≡ before ++ span text (lexemes tokens) ∷ []
    → before ++ divided behind text (lexemes tokens) ≡ whole → after ≡ whole
divided-plain behind text tokens d before after whole long is added so_far =
    added ∙ ap (λ v. before ++ v) (sym (divided-two behind text tokens d false long is)) ∙ so_far

-- nothing behind a label
pub divided-none : (behind : Bool) (text : List ℕ) (tokens : List Token) (before whole : List (List ℕ)) → behind ≡ true → length tokens ≡ 0
    → before ++ divided behind text (lexemes tokens) ≡ whole → before ≡ whole
unfolding divided
divided-none behind text [] before whole labelled none so_far =
    sym (append-nil before) ∙ ap (λ b. before ++ cond b [] ([] ∷ [])) (sym labelled) ∙ so_far
divided-none behind text (a ∷ tokens) before whole labelled none so_far = absurd (omega arith)

few-step : (behind : Bool) (text : List ℕ) (b : Bool) → b ≡ false → cond b [] ([] ∷ []) ≡ span text [] ∷ []
few-step behind text true e = cc
few-step behind text false e = refl

-- a statement of a word at most
pub divided-few : (behind : Bool) (text : List ℕ) (tokens : List Token) (before after whole : List (List ℕ)) → length tokens < 2
    → (length tokens ≡ 0 → behind ≡ false)
    → after ≡ before ++ span text (lexemes tokens) ∷ []
    → before ++ divided behind text (lexemes tokens) ≡ whole → after ≡ whole
unfolding divided
divided-few behind text [] before after whole few unlabelled added so_far =
    added ∙ ap (λ v. before ++ v) (sym (few-step behind text behind (unlabelled refl))) ∙ so_far
divided-few behind text (a ∷ []) before after whole few unlabelled added so_far = added ∙ so_far
divided-few behind text (a ∷ b ∷ tokens) before after whole few unlabelled added so_far = absurd (omega arith)

-- ---- fields between commas

neither : (a b : Bool) → (a || b) ≡ false → (a ≡ false) × (b ≡ false)
neither true b e = cc
neither false b e = (refl, e)

between_whole : (code : ℕ) (tokens : List Lexeme) → list_any (marks code) tokens ≡ false → between code tokens ≡ tokens ∷ []
unfolding between
between_whole code [] e = refl
between_whole code (token ∷ tokens) e =
    let both = neither (marks code token) (list_any (marks code) tokens) e in
    ap (λ b. cond b ([] ∷ between code tokens) (before_first token (between code tokens))) both.0
    ∙ ap (before_first token) (between_whole code tokens both.1)

between_cut : (code : ℕ) (front : List Lexeme) (comma : Lexeme) (behind : List Lexeme) → list_any (marks code) front ≡ false → marks code comma ≡ true
    → between code (front ++ comma ∷ behind) ≡ front ∷ between code behind
unfolding between
between_cut code [] comma behind e is = ap (λ b. cond b ([] ∷ between code behind) (before_first comma (between code behind))) is
between_cut code (token ∷ tokens) comma behind e is =
    let both = neither (marks code token) (list_any (marks code) tokens) e in
    let rest = between code (tokens ++ comma ∷ behind) in
    ap (λ b. cond b ([] ∷ rest) (before_first token rest)) both.0
    ∙ ap (before_first token) (between_cut code tokens comma behind both.1 is)

pub whole_field : (code : ℕ) (tokens : List Token) (place : ℕ) → length tokens ≤ place → list_any (marks code) (lexemes (take place tokens)) ≡ false
    → between code (lexemes tokens) ≡ lexemes tokens ∷ []
whole_field code tokens place all e =
    between_whole code (lexemes tokens) (ap (λ ts. list_any (marks code) (lexemes ts)) (sym (take_all place tokens all)) ∙ e)

pub passed_more : (code : ℕ) (tokens : List Token) (place : ℕ) (none : Token) → place < length tokens → list_any (marks code) (lexemes (take place tokens)) ≡ false
    → marks code (token_value (get_or tokens place none)) ≡ false → list_any (marks code) (lexemes (take (place + 1) tokens)) ≡ false
passed_more code tokens place none within e here =
    let front = take place tokens in
    let token = get_or tokens place none in
    ap (λ ts. list_any (marks code) (lexemes ts)) (take_more tokens place none within)
    ∙ ap (list_any (marks code)) (map-append token_value front (token ∷ []))
    ∙ list_any-append (marks code) (lexemes front) (token_value token ∷ [])
    ∙ ap (λ b. b || (marks code (token_value token) || false)) e ∙ ap (λ b. b || false) here

pub cut_field : (code : ℕ) (tokens : List Token) (place : ℕ) (none : Token) → place < length tokens → list_any (marks code) (lexemes (take place tokens)) ≡ false
    → marks code (token_value (get_or tokens place none)) ≡ true
    → between code (lexemes tokens) ≡ lexemes (take place tokens) ∷ between code (lexemes (drop (place + 1) tokens))
cut_field code tokens place none within e here =
    let front = take place tokens in
    let token = get_or tokens place none in
    let behind = drop (place + 1) tokens in
    ap (λ ts. between code (lexemes ts)) (sym (take-append-drop place tokens) ∙ ap (λ ts. front ++ ts) (drop_more tokens place none within))
    ∙ ap (between code) (map-append token_value front (token ∷ behind))
    ∙ between_cut code (lexemes front) (token_value token) (lexemes behind) e here

done-both : (b e : Bool) → cond b e false ≡ true → (b ≡ true) × (e ≡ true)
done-both true e is = (refl, is)
done-both false e is = cc

-- nothing stands behind a label, or something does
pub is-done : (labelled : Bool) (n : ℕ) → cond labelled (eqb n 0) false ≡ true → (labelled ≡ true) × (n ≡ 0)
is-done labelled n is = let both = done-both labelled (eqb n 0) is in (both.0, eqb-true n 0 both.1)

pub is-not-done : (labelled : Bool) (n : ℕ) → cond labelled (eqb n 0) false ≡ false → n ≡ 0 → labelled ≡ false
is-not-done true n is none = let zero_is : eqb n 0 ≡ true = eq-eqb n 0 none in let clash : true ≡ false = sym zero_is ∙ is in cc
is-not-done false n is none = refl

pub on-ok : {X E : Type 0} {A B : Type 0} (r : Result X E) → (A → B) → OnOk r A → OnOk r B
on-ok (Ok x) f a = f a
on-ok (Err e) f a = tt

-- the fields of words that may be there
abbrev pub fields_of : ℕ → Option (Bor (List Token)) → List (List Lexeme)
fields_of code None = []
fields_of code (Some left) = between code (lexemes left.now)

abbrev pub left_of : Option (Bor (List Token)) → ℕ
left_of None = 0
left_of (Some left) = length left.now + 1

pub first_of : (code : ℕ) (tokens first : List Lexeme) (behind : Option (Bor (List Token)))
    → MatchOption behind (between code tokens ≡ first ∷ []) (λ b. between code tokens ≡ first ∷ between code (lexemes b.now)) → between code tokens ≡ first ∷ fields_of code behind
first_of code tokens first None e = e
first_of code tokens first (Some b) e = e

pub fewer_left : (left : List Token) (behind : Option (Bor (List Token))) → MatchOption behind ⊤ (λ b. length b.now < length left) → left_of behind ≤ length left
fewer_left left None e = omega arith
fewer_left left (Some b) e = omega arith

-- one field more
pub field-more : (text : List ℕ) (before after whole : List (List ℕ)) (tokens first : List Lexeme) (behind rest : List (List Lexeme)) → rest ≡ between_commas tokens → between_commas tokens ≡ first ∷ behind
    → after ≡ before ++ span text first ∷ [] → before ++ map (span text) rest ≡ whole → after ++ map (span text) behind ≡ whole
field-more text before after whole tokens first behind rest is first_is added so_far =
    ap (λ v. v ++ map (span text) behind) added ∙ append_assoc before (span text first ∷ []) (map (span text) behind)
    ∙ ap (λ fs. before ++ map (span text) fs) (sym (is ∙ first_is)) ∙ so_far

pub arguments-some : (text : List ℕ) (tokens : List Token) → 0 < length tokens → arguments text (lexemes tokens) ≡ map (span text) (between_commas (lexemes tokens))
arguments-some text [] some = absurd (omega arith)
arguments-some text (a ∷ tokens) some = refl

pub arguments-none : (text : List ℕ) (tokens : List Token) → length tokens ≡ 0 → arguments text (lexemes tokens) ≡ []
arguments-none text [] none = refl
arguments-none text (a ∷ tokens) none = absurd (omega arith)

-- ---- names

-- the number of tokens of a field tells whether it is empty
is-empty-length : (tokens : List Token) → is_empty (lexemes tokens) ≡ eqb (length tokens) 0
is-empty-length [] = refl
is-empty-length (token ∷ tokens) = sym (ne_eqb (suc (length tokens)) 0 (λ (e : suc (length tokens) ≡ 0). absurd (omega arith)))

pub filled-field : (first : List Token) (rest : List (List Lexeme)) (all : Bool) → eqb (length first) 0 ≡ false
    → list_all (λ list. not (is_empty list)) (lexemes first ∷ rest) ≡ all → list_all (λ list. not (is_empty list)) rest ≡ all
filled-field first rest all some so_far =
    sym (ap (λ b. not b && list_all (λ list. not (is_empty list)) rest) (is-empty-length first ∙ some)) ∙ so_far

pub empty-field : (first : List Token) (rest : List (List Lexeme)) (all : Bool) → eqb (length first) 0 ≡ true
    → list_all (λ list. not (is_empty list)) (lexemes first ∷ rest) ≡ all → false ≡ all
empty-field first rest all none so_far =
    sym (ap (λ b. not b && list_all (λ list. not (is_empty list)) rest) (is-empty-length first ∙ none)) ∙ so_far

name-here : (tokens : List Token) (i : ℕ) (d : Token) → i < length tokens
    → names_of (lexemes (drop i tokens)) ≡ cond (is_word (get_or tokens i d).kind) ((get_or tokens i d).text.now ∷ names_of (lexemes (drop (i + 1) tokens))) (names_of (lexemes (drop (i + 1) tokens)))
unfolding names_of
name-here tokens i d within = ap (λ ts. names_of (lexemes ts)) (drop_more tokens i d within)

-- a token that is no word is passed over
pub names-pass : (tokens : List Token) (i : ℕ) (d : Token) (before whole : List (List ℕ)) → i < length tokens → is_word (get_or tokens i d).kind ≡ false
    → before ++ names_of (lexemes (drop i tokens)) ≡ whole → before ++ names_of (lexemes (drop (i + 1) tokens)) ≡ whole
names-pass tokens i d before whole within other so_far =
    let rest = names_of (lexemes (drop (i + 1) tokens)) in
    ap (λ v. before ++ v) (sym (name-here tokens i d within ∙ ap (λ b. cond b ((get_or tokens i d).text.now ∷ rest) rest) other)) ∙ so_far

-- a word more is a name
pub names-more : (tokens : List Token) (i : ℕ) (d : Token) (before whole : List (List ℕ)) → i < length tokens → is_word (get_or tokens i d).kind ≡ true
    → before ++ names_of (lexemes (drop i tokens)) ≡ whole → before ++ (get_or tokens i d).text.now ∷ names_of (lexemes (drop (i + 1) tokens)) ≡ whole
names-more tokens i d before whole within is so_far =
    let rest = names_of (lexemes (drop (i + 1) tokens)) in
    ap (λ v. before ++ v) (sym (name-here tokens i d within ∙ ap (λ b. cond b ((get_or tokens i d).text.now ∷ rest) rest) is)) ∙ so_far

pub names-done : (tokens : List Token) (i : ℕ) (before whole : List (List ℕ)) → length tokens ≤ i → before ++ names_of (lexemes (drop i tokens)) ≡ whole → before ≡ whole
unfolding names_of
names-done tokens i before whole all so_far = sym (append-nil before) ∙ ap (λ ts. before ++ names_of (lexemes ts)) (sym (drop_of_length-le tokens {i = i} all)) ∙ so_far

bytes-same : (text : List ℕ) → bytes_eq text text ≡ true
bytes-same text = (bytes_eq-Decides text text).1 refl

bytes-equal : (a b : List ℕ) → bytes_eq a b ≡ true → a ≡ b
bytes-equal a b e = (bytes_eq-Decides a b).0 e

bytes-apart : (a b : List ℕ) → bytes_eq a b ≡ false → bytes_eq b a ≡ false
bytes-apart a b e = apart-step (bytes_eq b a) refl
  where
    apart-step : (r : Bool) → bytes_eq b a ≡ r → bytes_eq b a ≡ false
    apart-step true is = let clash : true ≡ false = sym (bytes-same a) ∙ ap (bytes_eq a) (sym (bytes-equal b a is)) ∙ e in cc
    apart-step false is = is

or-if : (b c : Bool) → (b || c) ≡ cond b true c
or-if true c = refl
or-if false c = refl

module _ {A : Type 0} where
  -- whether a name is among those of the code
  pub among-any : (name : List ℕ) (keys : List (Vec ℕ A)) → list_any (λ (k : Vec ℕ A). bytes_eq name k.items) keys ≡ is_among name (map (λ k. k.items) keys)
  unfolding is_among
  among-any name [] = refl
  among-any name (key ∷ keys) =
      or-if (bytes_eq name key.items) (list_any (λ (k : Vec ℕ A). bytes_eq name k.items) keys)
      ∙ ap (cond (bytes_eq name key.items) true) (among-any name keys)

-- a name among some is among them and more
among-front : (name : List ℕ) (xs ys : List (List ℕ)) → is_among name xs ≡ true → is_among name (xs ++ ys) ≡ true
unfolding is_among
among-front name [] ys e = cc
among-front name (x ∷ xs) ys e = front-step (bytes_eq name x) e (among-front name xs ys)
  where
    front-step : (b : Bool) → cond b true (is_among name xs) ≡ true → (is_among name xs ≡ true → is_among name (xs ++ ys) ≡ true) → cond b true (is_among name (xs ++ ys)) ≡ true
    front-step true e later = refl
    front-step false e later = later e

-- a name is among all that it stands before
among-mid : (name : List ℕ) (xs ys : List (List ℕ)) → is_among name (xs ++ name ∷ ys) ≡ true
unfolding is_among
among-mid name [] ys = ap (λ b. cond b true (is_among name ys)) (bytes-same name)
among-mid name (x ∷ xs) ys = mid-step (bytes_eq name x) (among-mid name xs ys)
  where
    mid-step : (b : Bool) → is_among name (xs ++ name ∷ ys) ≡ true → cond b true (is_among name (xs ++ name ∷ ys)) ≡ true
    mid-step true e = refl
    mid-step false e = e

-- a name that stands before itself is no other one
pub different-twice : (name : List ℕ) (xs ys : List (List ℕ)) → is_among name xs ≡ true → are_different (xs ++ name ∷ ys) ≡ false
unfolding are_different is_among
different-twice name [] ys e = cc
different-twice name (x ∷ xs) ys e =
    ⊎_elim
    (λ (same : bytes_eq name x ≡ true). ap (λ b. cond b false (are_different (xs ++ name ∷ ys)))
    (ap (λ n. is_among n (xs ++ name ∷ ys)) (sym (bytes-equal name x same)) ∙ among-mid name xs ys))
    (λ (other : bytes_eq name x ≡ false). later-step (is_among x (xs ++ name ∷ ys)) (different-twice name xs ys (sym (ap (λ b. cond b true (is_among name xs)) other) ∙ e)))
    (cases_Bool (bytes_eq name x))
  where
    later-step : (b : Bool) → are_different (xs ++ name ∷ ys) ≡ false → cond b false (are_different (xs ++ name ∷ ys)) ≡ false
    later-step true e = refl
    later-step false e = e

-- a name that is none of the different ones behind which it stands leaves them different
pub different-more : (name : List ℕ) (xs : List (List ℕ)) → are_different xs ≡ true → is_among name xs ≡ false → are_different (xs ++ name ∷ []) ≡ true
unfolding are_different is_among
different-more name [] e none = refl
different-more name (x ∷ xs) e none =
    let later = different-parts (is_among x xs) (are_different xs) e in
    let apart = among-parts (bytes_eq name x) (is_among name xs) none in
    ap (λ b. cond b false (are_different (xs ++ name ∷ []))) (among-none x xs (later.0) apart.0)
    ∙ different-more name xs later.1 apart.1
  where
    different-parts : (b c : Bool) → cond b false c ≡ true → (b ≡ false) × (c ≡ true)
    different-parts true c e = cc
    different-parts false c e = (refl, e)

    among-parts : (b c : Bool) → cond b true c ≡ false → (b ≡ false) × (c ≡ false)
    among-parts true c e = cc
    among-parts false c e = (refl, e)

    among-none : (x : List ℕ) (ys : List (List ℕ)) → is_among x ys ≡ false → bytes_eq name x ≡ false → is_among x (ys ++ name ∷ []) ≡ false
    among-none x [] none other = ap (λ b. cond b true false) (bytes-apart name x other)
    among-none x (y ∷ ys) none other =
        let parts = among-parts (bytes_eq x y) (is_among x ys) none in
        ap (λ b. cond b true (is_among x (ys ++ name ∷ []))) parts.0 ∙ among-none x ys parts.1 other

not-false : (b : Bool) → not b ≡ false → b ≡ true
not-false true e = refl
not-false false e = cc

not-true : (b : Bool) → not b ≡ true → b ≡ false
not-true true e = cc
not-true false e = refl

module _ {A : Type 0} where
  -- a name that isn't added is there
  pub name-twice : (name : List ℕ) (keys : List (Vec ℕ A)) (key : Vec ℕ A) (added : Bool) → key.items ≡ name
      → added ≡ not (list_any (λ (k : Vec ℕ A). bytes_eq key.items k.items) keys) → added ≡ false → is_among name (map (λ k. k.items) keys) ≡ true
  name-twice name keys key added is tells none =
      ap (λ n. is_among n (map (λ k. k.items) keys)) (sym is) ∙ sym (among-any key.items keys) ∙ not-false _ (sym tells ∙ none)

  -- one that is added wasn't there, and stands last
  pub name-new : (name : List ℕ) (keys new : List (Vec ℕ A)) (key : Vec ℕ A) (added : Bool) → key.items ≡ name
      → added ≡ not (list_any (λ (k : Vec ℕ A). bytes_eq key.items k.items) keys) → added ≡ true
      → new ≡ cond (list_any (λ (k : Vec ℕ A). bytes_eq key.items k.items) keys) keys (keys ++ key ∷ [])
      → (is_among name (map (λ k. k.items) keys) ≡ false) × (map (λ k. k.items) new ≡ map (λ k. k.items) keys ++ name ∷ [])
  name-new name keys new key added is tells some new_is =
      let absent : list_any (λ (k : Vec ℕ A). bytes_eq key.items k.items) keys ≡ false = not-true _ (sym tells ∙ some) in (
        ap (λ n. is_among n (map (λ k. k.items) keys)) (sym is) ∙ sym (among-any key.items keys) ∙ absent,
        ap (map (λ k. k.items)) (new_is ∙ ap (λ b. cond b keys (keys ++ key ∷ [])) absent)
            ∙ map-append (λ k. k.items) keys (key ∷ []) ∙ ap (λ n. map (λ k. k.items) keys ++ n ∷ []) is,
      )

-- no names differ
pub different-none : are_different [] ≡ true
unfolding are_different
different-none = refl

-- the names with one more
pub names-added : (name : List ℕ) (done after rest whole : List (List ℕ)) → after ≡ done ++ name ∷ [] → done ++ name ∷ rest ≡ whole → after ++ rest ≡ whole
names-added name done after rest whole is so_far = ap (λ v. v ++ rest) is ∙ append_assoc done (name ∷ []) rest ∙ so_far

pub names-differ : (name : List ℕ) (done after : List (List ℕ)) → are_different done ≡ true → is_among name done ≡ false → after ≡ done ++ name ∷ [] → are_different after ≡ true
names-differ name done after different none is = ap are_different is ∙ different-more name done different none

-- words that aren't all names or commas are no names
pub names-other : (tokens : List Token) → eqb (length tokens) 0 ≡ false → list_all (λ word. is_word_or_comma (token_value word)) tokens ≡ false → false ≡ are_names (lexemes tokens)
names-other [] some other = cc
names-other (token ∷ tokens) some other =
    sym (ap (λ b. cond b (are_filled (lexemes (token ∷ tokens))) false) (list_all-map is_word_or_comma token_value (token ∷ tokens) ∙ other))

pub names-filled : (tokens : List Token) → eqb (length tokens) 0 ≡ false → list_all (λ word. is_word_or_comma (token_value word)) tokens ≡ true → are_filled (lexemes tokens) ≡ are_names (lexemes tokens)
names-filled [] some all = cc
names-filled (token ∷ tokens) some all =
    sym (ap (λ b. cond b (are_filled (lexemes (token ∷ tokens))) false) (list_all-map is_word_or_comma token_value (token ∷ tokens) ∙ all))

-- names of which one stands twice are no parameter list
pub names-twice : (name : List ℕ) (done rest whole : List (List ℕ)) → is_among name done ≡ true → done ++ name ∷ rest ≡ whole → None ≡ if_different whole
names-twice name done rest whole twice all =
    sym (ap (λ b. cond b (Some whole) None) (ap are_different (sym all) ∙ different-twice name done rest twice))

pub names-found : (done whole : List (List ℕ)) → are_different done ≡ true → done ≡ whole → Some done ≡ if_different whole
names-found done whole different all = ap (λ b. cond b (Some done) None) (sym different) ∙ ap if_different all
