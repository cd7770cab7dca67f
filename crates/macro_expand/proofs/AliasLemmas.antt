-- Aliases replaced in a statement, token by token, and the names that are aliases.
use Rattle.std.proofs.Common.{◌≡◌, ℕ, suc, ◌+◌, ◌<◌, ◌≤◌, Bool, true, false, not, cond, ◌&&◌, List, [], ◌∷◌, ◌++◌, length, drop, slice_range, get_or, refl, ap, sym, ◌∙◌, subst, arith, append_assoc, append-nil, drop-cons, Option, Some, None, option_map, is_some, Result, Ok, Err, if◌then◌else◌}
use Rattle.std.proofs.Math.ListN.{drop_of_length-le}
use mathlib.Core.Path.{fun_ext}
use Rattle.std.specs.Str.{bytes_eq}
use Rattle.std.specs.String.{string_bytes, string_eq}
use Rattle.std.specs.HashMap.{UpdatesBy, get_by_text}
use Rattle.std.proofs.lemmas.Map.Text.{hash_map_updates_text}
use Rattle.std.specs.declared.string.String.{String}
use Rattle.std.specs.declared.vec.Vec.{Vec}
use Rattle.indexmap.specs.IndexMap.{IndexMap}
use Rattle.macro_expand.specs.declared.parts.Part.{Part}
use Rattle.std.specs.Map.{update}
use Rattle.sl_model.specs.Token.{Lexeme}
use Rattle.sl_text.specs.Tokens.{token_value}
use Rattle.sl_text.specs.declared.token.Token.{Token}
use Rattle.sl_model.specs.TokenTests.{is_word}
use Rattle.macro_expand.specs.Words.{end_of}
use Rattle.macro_expand.specs.Filled.{Names, replaced, put_for_word, directly_before, is_kept, at_place, or_else}
use Rattle.macro_expand.specs.Spelled.{lexemes, spelled, alias_names}
use Rattle.sl_model.specs.TokenTests.{touches}
use Rattle.sl_model.specs.ResultSteps.{◌>>=◌}
use Rattle.macro_expand.specs.Expansion.{Known, Refusal, is_other, count, count_if, ended, set_alias, without_alias, with_alias, name_free}
use Rattle.macro_expand.specs.Expansion.{Macro, refused}
use Rattle.macro_expand.specs.Region.{named}
use Rattle.macro_expand.specs.Views.{macro_of, macro_names}
use Rattle.macro_expand.specs.declared.expansion.Macro as code
use Rattle.macro_expand.specs.declared.reasons.ExpandErr.{ExpandErr}
use Rattle.macro_expand.specs.declared.reasons.ExpandReason.TheVariants as reason
use Rattle.macro_expand.proofs.CycleLemmas.{Refuses, fails-on}

replaced-step : (aliases : Names (List ℕ)) (text : List ℕ) (first : Bool) (last : List ℕ) (place : ℕ) (tokens : List Token) (i : ℕ) (d : Token) → i < length tokens
    → replaced aliases text first last place (lexemes (drop i tokens))
    ≡ slice_range text place (get_or tokens i d).start
    ++ (put_for_word aliases text first (directly_before place last (token_value (get_or tokens i d))) (token_value (get_or tokens i d))
    ++ replaced aliases text (first && not (is_word (get_or tokens i d).kind)) (get_or tokens i d).text.now (end_of (token_value (get_or tokens i d))) (lexemes (drop (i + 1) tokens)))
unfolding replaced
replaced-step aliases text first last place tokens i d within =
    let token = token_value (get_or tokens i d) in
    let next : suc i ≡ i + 1 = omega arith in
    ap (λ ts. replaced aliases text first last place (lexemes ts)) (drop-cons tokens i d within)
    ∙ ap (λ n. slice_range text place token.start ++ (put_for_word aliases text first (directly_before place last token) token ++ replaced aliases text (first && not (is_word token.kind)) token.text (end_of token) (lexemes (drop n tokens)))) next

-- one token more
pub replaced-more : (aliases : Names (List ℕ)) (text : List ℕ) (first next-first : Bool) (last : List ℕ) (place next-place : ℕ) (tokens : List Token) (i : ℕ) (d : Token) (before mid after whole near : List ℕ) → i < length tokens
    → mid ≡ before ++ slice_range text place (get_or tokens i d).start
    → near ≡ directly_before place last (token_value (get_or tokens i d))
    → after ≡ mid ++ put_for_word aliases text first near (token_value (get_or tokens i d))
    → next-first ≡ (first && not (is_word (get_or tokens i d).kind)) → next-place ≡ end_of (token_value (get_or tokens i d))
    → before ++ replaced aliases text first last place (lexemes (drop i tokens)) ≡ whole
    → after ++ replaced aliases text next-first (get_or tokens i d).text.now next-place (lexemes (drop (i + 1) tokens)) ≡ whole
replaced-more aliases text first next-first last place next-place tokens i d before mid after whole near within mid_is near_is after_is first_is place_is so_far =
    let token = token_value (get_or tokens i d) in
    let slice = slice_range text place token.start in
    let rest = replaced aliases text (first && not (is_word token.kind)) token.text (end_of token) (lexemes (drop (i + 1) tokens)) in
    ap (λ f. after ++ replaced aliases text f token.text next-place (lexemes (drop (i + 1) tokens))) first_is
    ∙ ap (λ n. after ++ replaced aliases text (first && not (is_word token.kind)) token.text n (lexemes (drop (i + 1) tokens))) place_is
    ∙ ap (λ v. v ++ rest) (after_is ∙ ap (λ b. mid ++ put_for_word aliases text first b token) near_is ∙ ap (λ v. v ++ put_for_word aliases text first (directly_before place last token) token) mid_is)
    ∙ append_assoc (before ++ slice) (put_for_word aliases text first (directly_before place last token) token) rest
    ∙ append_assoc before slice (put_for_word aliases text first (directly_before place last token) token ++ rest)
    ∙ ap (λ v. before ++ v) (sym (replaced-step aliases text first last place tokens i d within)) ∙ so_far

pub replaced-done : (aliases : Names (List ℕ)) (text : List ℕ) (first : Bool) (last : List ℕ) (place : ℕ) (tokens : List Token) (i : ℕ) (out whole : List ℕ) → length tokens ≤ i
    → out ++ replaced aliases text first last place (lexemes (drop i tokens)) ≡ whole → out ≡ whole
unfolding replaced
replaced-done aliases text first last place tokens i out whole all so_far =
    sym (append-nil out) ∙ ap (λ ts. out ++ replaced aliases text first last place (lexemes ts)) (sym (drop_of_length-le tokens {i = i} all)) ∙ so_far

-- ---- what is put for a token

pub put-kept : (aliases : Names (List ℕ)) (text : List ℕ) (first : Bool) (before : List ℕ) (token : Lexeme) → is_kept first before token ≡ true
    → put_for_word aliases text first before token ≡ at_place text token
put-kept aliases text first before token is = ap (λ b. cond b (at_place text token) (or_else (at_place text token) (aliases token.text))) is

pub put-free : (aliases : Names (List ℕ)) (text : List ℕ) (first : Bool) (before : List ℕ) (token : Lexeme) (value : Option (List ℕ)) → is_kept first before token ≡ false → value ≡ aliases token.text
    → put_for_word aliases text first before token ≡ or_else (at_place text token) value
put-free aliases text first before token value is known =
    ap (λ b. cond b (at_place text token) (or_else (at_place text token) (aliases token.text))) is ∙ ap (or_else (at_place text token)) (sym known)

-- ---- the names that are aliases

map-chosen : {X Z : Type 0} (f : X → Z) (b : Bool) (w v : Option X) → option_map f (cond b w v) ≡ cond b (option_map f w) (option_map f v)
map-chosen f true w v = refl
map-chosen f false w v = refl

module _ {Y Z S : Type 0} where
  -- after a change at a name, the aliases are those with this change
  pub names-after : (name : List ℕ) (old new : IndexMap (String Y) (Vec Part Z) S) (w : Option (Vec Part Z)) → UpdatesBy string_eq (λ k. bytes_eq name (string_bytes k)) old new w
      → alias_names new ≡ update bytes_eq (alias_names old) name (option_map (λ parts. spelled parts.items) w)
  names-after name old new w updates =
      fun_ext (λ other. ap (option_map (λ parts. spelled parts.items)) (hash_map_updates_text name old new w updates other)
      ∙ map-chosen (λ parts. spelled parts.items) (bytes_eq name other) w (get_by_text old other))

module _ {Y S : Type 0} where
  -- after a change at a name, the macros are those with this change
  pub macros-after : (name : List ℕ) (old new : IndexMap (String Y) code.Macro S) (w : Option code.Macro) → UpdatesBy string_eq (λ k. bytes_eq name (string_bytes k)) old new w
      → macro_names new ≡ update bytes_eq (macro_names old) name (option_map macro_of w)
  macros-after name old new w updates =
      fun_ext (λ other. ap (option_map macro_of) (hash_map_updates_text name old new w updates other)
      ∙ map-chosen macro_of (bytes_eq name other) w (get_by_text old other))

-- what is there is there whatever is made of it
pub some-map : {X Z : Type 0} (f : X → Z) (x : Option X) → is_some (option_map f x) ≡ is_some x
some-map f None = refl
some-map f (Some x) = refl

-- a macro of a name that is none yet
pub named-new : (line : ℕ) (name : List ℕ) (macro : Macro) (macros after : Names Macro) → is_some (macros name) ≡ false → after ≡ update bytes_eq macros name (Some macro) → named line name macro macros ≡ Ok after
named-new line name macro macros after none is =
    ap (λ b. if b then refused line reason.MacroTwice else Ok (update bytes_eq macros name (Some macro))) none ∙ ap Ok (sym is)

-- ---- `.unreq`

three_first : (tokens : List Token) (d : Token) → 3 ≤ length tokens → length tokens < 4 → tokens ≡ get_or tokens 0 d ∷ get_or tokens 1 d ∷ get_or tokens 2 d ∷ []
three_first [] d long few = absurd (omega arith)
three_first (a ∷ []) d long few = absurd (omega arith)
three_first (a ∷ b ∷ []) d long few = absurd (omega arith)
three_first (a ∷ b ∷ c ∷ []) d long few = refl
three_first (a ∷ b ∷ c ∷ e ∷ tokens) d long few = absurd (omega arith)

both-true : (a b : Bool) → a ≡ false → b ≡ true → (not a && b) ≡ true
both-true a b e f = ap (λ v. not v && b) e ∙ f

-- an alias is ended
pub ends-alias : (counts : Bool) (line : ℕ) (text : List ℕ) (tokens : List Token) (d : Token) (known counted : Known) → 3 ≤ length tokens → length tokens < 4
    → touches (token_value (get_or tokens 1 d)) (token_value (get_or tokens 2 d)) ≡ false
    → is_some (known.aliases (get_or tokens 2 d).text.now) ≡ true
    → count_if counts line text known ≡ Ok counted
    → without_alias counts line text (lexemes tokens) known ≡ Ok (set_alias (get_or tokens 2 d).text.now None counted)
ends-alias counts line text tokens d known counted long few apart known_is e =
    let unreq = token_value (get_or tokens 1 d) in
    let name = token_value (get_or tokens 2 d) in
    ap (λ ts. without_alias counts line text (lexemes ts) known) (three_first tokens d long few)
    ∙ ap (λ b. cond b (ended name.text (count_if counts line text known)) (Err (record { line = line; reason = reason.AliasUnknown }))) (both-true (touches unreq name) (is_some (known.aliases name.text)) apart known_is)
    ∙ ap (ended name.text) e

pub fails-alias : (counts : Bool) (line : ℕ) (text : List ℕ) (tokens : List Token) (d : Token) (known : Known) (failure : ExpandErr) → 3 ≤ length tokens → length tokens < 4
    → touches (token_value (get_or tokens 1 d)) (token_value (get_or tokens 2 d)) ≡ false
    → is_some (known.aliases (get_or tokens 2 d).text.now) ≡ true
    → Refuses failure (count_if counts line text known)
    → Refuses failure (without_alias counts line text (lexemes tokens) known)
fails-alias counts line text tokens d known failure long few apart known_is e =
    let unreq = token_value (get_or tokens 1 d) in
    let name = token_value (get_or tokens 2 d) in
    subst (Refuses failure)
    (sym (ap (λ ts. without_alias counts line text (lexemes ts) known) (three_first tokens d long few)
    ∙ ap (λ b. cond b (ended name.text (count_if counts line text known)) (Err (record { line = line; reason = reason.AliasUnknown }))) (both-true (touches unreq name) (is_some (known.aliases name.text)) apart known_is)))
    (fails-on failure (count_if counts line text known) (λ counted. Ok (set_alias name.text None counted)) e)

-- ---- `.req`

four_first : (tokens : List Token) (d e : Token) → 3 ≤ length tokens → 1 ≤ length (drop 3 tokens)
    → tokens ≡ get_or tokens 0 d ∷ get_or tokens 1 d ∷ get_or tokens 2 d ∷ get_or (drop 3 tokens) 0 e ∷ drop 1 (drop 3 tokens)
four_first [] d e long more = absurd (omega arith)
four_first (a ∷ []) d e long more = absurd (omega arith)
four_first (a ∷ b ∷ []) d e long more = absurd (omega arith)
four_first (a ∷ b ∷ c ∷ []) d e long more = absurd (omega arith)
four_first (a ∷ b ∷ c ∷ n ∷ tokens) d e long more = refl

-- what an alias does, by the text that it stands for
pub alias-by : (line : ℕ) (text value whole : List ℕ) (tokens : List Token) (d e : Token) (known : Known) → 3 ≤ length tokens → 1 ≤ length (drop 3 tokens)
    → value ≡ replaced known.aliases text false [] (get_or (drop 3 tokens) 0 e).start (lexemes (drop 3 tokens))
    → whole ≡ slice_range text 0 (get_or (drop 3 tokens) 0 e).start ++ value
    → with_alias line text (lexemes tokens) known
    ≡ (name_free line value (known.aliases (get_or tokens 0 d).text.now) known >>= count line whole >>= λ counted. Ok (set_alias (get_or tokens 0 d).text.now (Some value) counted))
alias-by line text value whole tokens d e known long more value_is whole_is =
    let name = (get_or tokens 0 d).text.now in
    let next = get_or (drop 3 tokens) 0 e in
    let again : token_value next ∷ lexemes (drop 1 (drop 3 tokens)) ≡ lexemes (drop 3 tokens) = sym (ap lexemes (one_first (drop 3 tokens) e more)) in
    ap (λ ts. with_alias line text (lexemes ts) known) (four_first tokens d e long more)
    ∙ ap (λ v. name_free line v (known.aliases name) known >>= count line (slice_range text 0 next.start ++ v) >>= λ counted. Ok (set_alias name (Some v) counted))
    (ap (replaced known.aliases text false [] next.start) again ∙ sym value_is)
    ∙ ap (λ w. name_free line value (known.aliases name) known >>= count line w >>= λ counted. Ok (set_alias name (Some value) counted)) (sym whole_is)
  where
    one_first : (tokens : List Token) (d : Token) → 1 ≤ length tokens → tokens ≡ get_or tokens 0 d ∷ drop 1 tokens
    one_first [] d long = absurd (omega arith)
    one_first (a ∷ tokens) d long = refl

-- the same, by what stands behind `.req`
pub alias-at : (line : ℕ) (text value whole : List ℕ) (tokens rest : List Token) (d e : Token) (known : Known) → 3 ≤ length tokens → rest ≡ drop 3 tokens → 1 ≤ length rest
    → value ≡ replaced known.aliases text false [] (get_or rest 0 e).start (lexemes rest)
    → whole ≡ slice_range text 0 (get_or rest 0 e).start ++ value
    → with_alias line text (lexemes tokens) known
    ≡ (name_free line value (known.aliases (get_or tokens 0 d).text.now) known >>= count line whole >>= λ counted. Ok (set_alias (get_or tokens 0 d).text.now (Some value) counted))
alias-at line text value whole tokens rest d e known long is more value_is whole_is =
    alias-by line text value whole tokens d e known long (subst (λ ts. 1 ≤ length ts) is more)
    (subst (λ ts. value ≡ replaced known.aliases text false [] (get_or ts 0 e).start (lexemes ts)) is value_is)
    (subst (λ ts. whole ≡ slice_range text 0 (get_or ts 0 e).start ++ value) is whole_is)

-- the whole of what counts, joined from its two parts
pub whole-of : (whole joined cut value spelt front : List ℕ) → whole ≡ joined → joined ≡ cut ++ spelt → cut ≡ front → value ≡ spelt → whole ≡ front ++ value
whole-of whole joined cut value spelt front a b c e = a ∙ b ∙ ap (λ v. v ++ spelt) c ∙ ap (λ v. front ++ v) (sym e)

pub other-refused : (line : ℕ) (value whole name : List ℕ) (old : Option (List ℕ)) (known : Known) (all : Result Known Refusal)
    → all ≡ (name_free line value old known >>= count line whole >>= λ counted. Ok (set_alias name (Some value) counted)) → is_other old value ≡ true
    → all ≡ Err (record { line = line; reason = reason.AliasTwice })
other-refused line value whole name old known all e other =
    e ∙ ap (λ b. cond b (Err (record { line = line; reason = reason.AliasTwice })) (Ok known) >>= count line whole >>= λ counted. Ok (set_alias name (Some value) counted)) other

pub free-counts : (line : ℕ) (value whole name : List ℕ) (old : Option (List ℕ)) (known : Known) (all : Result Known Refusal)
    → all ≡ (name_free line value old known >>= count line whole >>= λ counted. Ok (set_alias name (Some value) counted)) → is_other old value ≡ false
    → all ≡ (count line whole known >>= λ counted. Ok (set_alias name (Some value) counted))
free-counts line value whole name old known all e free =
    e ∙ ap (λ b. cond b (Err (record { line = line; reason = reason.AliasTwice })) (Ok known) >>= count line whole >>= λ counted. Ok (set_alias name (Some value) counted)) free

pub free-fails : (line : ℕ) (value whole name : List ℕ) (old : Option (List ℕ)) (known : Known) (all : Result Known Refusal) (failure : ExpandErr)
    → all ≡ (name_free line value old known >>= count line whole >>= λ counted. Ok (set_alias name (Some value) counted)) → is_other old value ≡ false
    → Refuses failure (count line whole known) → Refuses failure all
free-fails line value whole name old known all failure e free fails =
    subst (Refuses failure) (sym (free-counts line value whole name old known all e free)) (fails-on failure (count line whole known) (λ counted. Ok (set_alias name (Some value) counted)) fails)

pub free-done : (line : ℕ) (value whole name spelt : List ℕ) (old : Option (List ℕ)) (known counted new : Known) (all : Result Known Refusal)
    → all ≡ (name_free line value old known >>= count line whole >>= λ counted. Ok (set_alias name (Some value) counted)) → is_other old value ≡ false
    → count line whole known ≡ Ok counted → value ≡ spelt → new ≡ set_alias name (Some spelt) counted → all ≡ Ok new
free-done line value whole name spelt old known counted new all e free counts spelt_is new_is =
    free-counts line value whole name old known all e free
    ∙ ap (λ r. r >>= λ k. Ok (set_alias name (Some value) k)) counts
    ∙ ap (λ v. Ok (set_alias name (Some v) counted)) spelt_is ∙ ap Ok (sym new_is)

-- an alias for another text is refused
pub alias-refused : (line : ℕ) (text value : List ℕ) (tokens rest : List Token) (d e : Token) (known : Known) → 3 ≤ length tokens → rest ≡ drop 3 tokens → 1 ≤ length rest
    → value ≡ replaced known.aliases text false [] (get_or rest 0 e).start (lexemes rest)
    → is_other (known.aliases (get_or tokens 0 d).text.now) value ≡ true
    → with_alias line text (lexemes tokens) known ≡ Err (record { line = line; reason = reason.AliasTwice })
alias-refused line text value tokens rest d e known long is more value_is other =
    let whole = slice_range text 0 (get_or rest 0 e).start ++ value in
    other-refused line value whole (get_or tokens 0 d).text.now (known.aliases (get_or tokens 0 d).text.now) known (with_alias line text (lexemes tokens) known)
    (alias-at line text value whole tokens rest d e known long is more value_is refl) other
