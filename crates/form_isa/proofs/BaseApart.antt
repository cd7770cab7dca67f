-- A base that is written back is no data's register exactly where reading finds it so.
use Rattle.std.proofs.Common.{◌≡◌, ◌∙◌, sym, ap, refl, ℕ, zero, suc, ◌+◌, ◌==◌, ◌≤◌, Bool, true, false, cond, not, filter, List, [], ◌∷◌, ◌++◌, length, length-append, ⊎_elim, arith}
use Rattle.std.specs.Prelude.{Option, Some, None, is_some, slice_get, option_and_then}
use Rattle.std.proofs.lemmas.Bool.{cases_Bool, eqb-true}
use Rattle.std.proofs.lemmas.Bool.Decides.{nat_tests}
use Rattle.std.proofs.lemmas.List.{append-nil}
use Rattle.sl_model.specs.declared.register.Bank.TheVariants.{General}
use Rattle.sl_model.specs.declared.register.Reg.{Reg}
use Rattle.sl_model.specs.declared.register.RegSet.{RegSet}
use Rattle.sl_model.specs.declared.instruction.ArchName.{ArchName}
use Rattle.sl_model.specs.Register.{same_reg}
use Rattle.sl_model.specs.Source.{padded}
use Rattle.sl_model.specs.Lawful.{is_alone, is_base_alone}
use Rattle.sl_isa.specs.declared.meaning.Transfer.{Transfer}
use Rattle.sl_isa.specs.declared.meaning.Meaning.{Meaning}
use Rattle.sl_isa.specs.declared.meaning.Meaning.TheVariants as meaning
use Rattle.scalar_ops.specs.Scalar.{result_bits}
use Rattle.form_table.specs.Rows.{row_operands}
use Rattle.form_table.specs.Reads.{is_picked, kept, picked, registers_suit, all_placed, stands_in, base_repeats, shares_base}
use Rattle.form_table.specs.Printed.{has_register}
use Rattle.form_table.specs.declared.rows.Role.{Role}
use Rattle.form_table.specs.declared.rows.Role.TheVariants as role
use Rattle.form_table.specs.declared.rows.Operand.{Operand}
use Rattle.form_table.specs.declared.rows.Row.{Row}
use Rattle.form_table.specs.declared.spells.Held.{Held}
use Rattle.form_table.specs.declared.reader.Pick.TheVariants as pick
use Rattle.form_table.proofs.ForCallers.{Shaped}
use Rattle.form_isa.specs.Access.{base_place, writes_back}
use Rattle.form_isa.specs.Info.{classes, places_of, input_classes, back_place, info_of}
use Rattle.form_isa.specs.LawfulTable.{has_room, has_vector_room, lacks_base, suits_meaning}
use Rattle.form_isa.proofs.Places.{flags_among, read_regs, all_placed-padded}
use Rattle.form_isa.proofs.Suits.{picked-of, read-of, of-count}
use Rattle.form_isa.proofs.Tests.{SuitsTransfer, suits-transfer}
use Rattle.sl_laws.proofs.Registers.{same_reg-refl, same_reg-comm, same_reg-true}
use Rattle.sl_laws.proofs.Elements.{slice_get-seam}
use Rattle.sl_laws.proofs.Tests.{then_parts}

-- ---- a register behind others is alone where it isn't among them

-- either way round a test of two registers has one answer
same_reg-turned : (a b : Reg) → same_reg a b ≡ same_reg b a
same_reg-turned a b = ⊎_elim
    (λ (same : same_reg a b ≡ true). (let one : a ≡ b = same_reg-true a b same in same ∙ sym (ap (same_reg b) one ∙ same_reg-refl b)))
    (λ (other : same_reg a b ≡ false). other ∙ sym (same_reg-comm a b other))
    (cases_Bool (same_reg a b))

abbrev those : Reg → List Reg → ℕ
those b regs = length (filter (same_reg b) (regs ++ b ∷ []))

one-more : (t : Bool) (q : Reg) (regs : List Reg) → 1 ≤ length regs → 1 ≤ length (cond t (q ∷ regs) regs)
one-more true q regs some = omega arith
one-more false q regs some = some

it-is-there : (b : Reg) (regs : List Reg) → 1 ≤ those b regs
it-is-there b [] =
    let here : those b [] ≡ 1 = ap (λ t. length (cond t (b ∷ []) [])) (same_reg-refl b) in omega arith
it-is-there b (q ∷ regs) = one-more (same_reg b q) q (filter (same_reg b) (regs ++ b ∷ [])) (it-is-there b regs)

none-stands : (b : Reg) (n : ℕ) → stands_in b (padded n []) ≡ false
unfolding stands_in
none-stands b zero = refl
none-stands b (suc n) = none-stands b n

not-one : (n : ℕ) → 1 ≤ n → (suc n == 1) ≡ false
not-one n some = grind (arith, nat_tests)

by-first : (t more : Bool) (q : Reg) (regs : List Reg) → 1 ≤ length regs → (length regs == 1) ≡ not more
    → (length (cond t (q ∷ regs) regs) == 1) ≡ not (cond t true more)
by-first true more q regs some e = not-one (length regs) some
by-first false more q regs some e = e

alone-last : (b : Reg) (n : ℕ) (regs : List Reg) → length regs ≤ n → (those b regs == 1) ≡ not (stands_in b (padded n regs))
unfolding stands_in
alone-last b n [] few =
    ap (λ t. length (cond t (b ∷ []) []) == 1) (same_reg-refl b) ∙ ap not (sym (none-stands b n))
alone-last b zero (q ∷ regs) few = absurd (omega arith)
alone-last b (suc n) (q ∷ regs) few =
    let less : length regs ≤ n = omega arith in
    by-first (same_reg b q) (stands_in b (padded n regs)) q (filter (same_reg b) (regs ++ b ∷ [])) (it-is-there b regs) (alone-last b n regs less)
    ∙ ap (λ t. not (cond t true (stands_in b (padded n regs)))) (same_reg-turned b q)

-- ---- operands of which the base is the last that is read

-- Registers that are read are data with a base behind them, which is written back.
abbrev Based : List Reg → List Reg → List Reg → Type 0
Based reads carried back = (b : Reg) × (back ≡ b ∷ []) × (reads ≡ carried ++ b ∷ [])

-- Nothing is read.
abbrev Nothing : List Reg → List Reg → List Reg → Type 0
Nothing reads carried back = (reads ≡ []) × (carried ≡ []) × (back ≡ [])

-- the places of operands of one kind, of an operand and those behind it
abbrev places : Bool → Bool → Bool → ℕ → (ℕ → List ℕ) → List ℕ
places has picks reads next behind =
    cond (cond has picks false) (next ∷ behind (next + 1))
    (cond (cond has reads false) (behind (next + 1)) (behind next))

pub kept-none : (picks : Bool) (regs : List Reg) → kept picks None regs ≡ regs
kept-none true regs = refl
kept-none false regs = refl

-- a place isn't before the first one
step-least : (has picks reads : Bool) (next p : ℕ) (qs : List ℕ) (behind : ℕ → List ℕ) → ((m : ℕ) (rs : List ℕ) → behind m ≡ p ∷ rs → m ≤ p)
    → places has picks reads next behind ≡ p ∷ qs → next ≤ p
step-least true true reads next p qs behind least e = let here : next ≡ p = cc in omega arith
step-least true false true next p qs behind least e = let later : next + 1 ≤ p = least (next + 1) qs e in omega arith
step-least true false false next p qs behind least e = least next qs e
step-least false picks reads next p qs behind least e = least next qs e

places-least : (operands : List Operand) (next p : ℕ) (qs : List ℕ) → places_of pick.Back next operands ≡ p ∷ qs → next ≤ p
unfolding places_of
places-least [] next p qs e = absurd cc
places-least (operand ∷ operands) next p qs e =
    step-least (has_register operand.shape) (is_picked pick.Back operand.role) (is_picked pick.Read operand.role) next p qs (λ m. places_of pick.Back m operands)
    (λ m rs. places-least operands m p rs) e

-- where there is neither base nor data, nothing is read
step-nothing : (has : Bool) (r : Role) (o : Option Reg) (set : RegSet) (next : ℕ) (bases : ℕ → List ℕ) (sets : List RegSet) (reads carried back : List Reg)
    → is_some o ≡ has → ((m : ℕ) → bases m ≡ [] → length sets ≡ 0 → Nothing reads carried back)
    → places has (is_picked pick.Base r) (is_picked pick.Read r) next bases ≡ []
    → length (cond (cond has (is_picked pick.Data r) false) (set ∷ sets) sets) ≡ 0
    → Nothing (kept (is_picked pick.Read r) o reads) (kept (is_picked pick.Data r) o carried) (kept (is_picked pick.Back r) o back)
step-nothing has r None set next bases sets reads carried back s rest e none = by has r s e none
  where
    same : (a b c : Bool) → Nothing reads carried back → Nothing (kept a None reads) (kept b None carried) (kept c None back)
    same a b c n = (kept-none a reads ∙ n.0, kept-none b carried ∙ n.1, kept-none c back ∙ n.2)

    by : (has : Bool) (r : Role) → false ≡ has → places has (is_picked pick.Base r) (is_picked pick.Read r) next bases ≡ []
        → length (cond (cond has (is_picked pick.Data r) false) (set ∷ sets) sets) ≡ 0
        → Nothing (kept (is_picked pick.Read r) None reads) (kept (is_picked pick.Data r) None carried) (kept (is_picked pick.Back r) None back)
    by true r s e none = absurd cc
    by false r s e none = same (is_picked pick.Read r) (is_picked pick.Data r) (is_picked pick.Back r) (rest next e none)
step-nothing false r (Some q) set next bases sets reads carried back s rest e none = absurd cc
step-nothing true role.In (Some q) set next bases sets reads carried back s rest e none = absurd (omega arith)
step-nothing true role.Out (Some q) set next bases sets reads carried back s rest e none = rest next e none
step-nothing true role.Tied (Some q) set next bases sets reads carried back s rest e none = rest next e none
step-nothing true role.Base (Some q) set next bases sets reads carried back s rest e none = absurd cc
step-nothing true role.Back (Some q) set next bases sets reads carried back s rest e none = absurd cc

reads-nothing : (operands : List Operand) (helds : List Held) (next : ℕ) → Shaped operands helds → places_of pick.Base next operands ≡ []
    → length (classes pick.Data operands) ≡ 0
    → Nothing (picked pick.Read operands helds) (picked pick.Data operands helds) (picked pick.Back operands helds)
unfolding places_of classes picked
reads-nothing [] [] next s e none = (refl, refl, refl)
reads-nothing [] (held ∷ helds) next s e none = absurd s
reads-nothing (operand ∷ operands) [] next s e none = absurd s
reads-nothing (operand ∷ operands) (held ∷ helds) next s e none =
    step-nothing (has_register operand.shape) operand.role held.register operand.class next (λ m. places_of pick.Base m operands)
    (classes pick.Data operands) (picked pick.Read operands helds) (picked pick.Data operands helds) (picked pick.Back operands helds) s.0.register
    (λ m f n. reads-nothing operands helds m s.1 f n) e none

-- What is known of the operands behind one, where the base has a place.
record Behind (p : ℕ) (bases backs : ℕ → List ℕ) (sets : List RegSet) (reads carried back : List Reg) : Type 0 where
  based : (m : ℕ) → bases m ≡ p ∷ [] → backs m ≡ p ∷ [] → m + length sets ≡ p → Based reads carried back
  nothing : (m : ℕ) → bases m ≡ [] → length sets ≡ 0 → Nothing reads carried back
  least : (m : ℕ) (qs : List ℕ) → backs m ≡ p ∷ qs → m ≤ p

-- the base itself
base-here : (q : Reg) (reads carried back : List Reg) → Nothing reads carried back → Based (q ∷ reads) carried (q ∷ back)
base-here q reads carried back n = (q, ap (λ l. q ∷ l) n.2, ap (λ l. q ∷ l) n.0 ∙ ap (λ l. l ++ q ∷ []) (sym n.1))

step-based : (has : Bool) (r : Role) (o : Option Reg) (set : RegSet) (next p : ℕ) (bases backs : ℕ → List ℕ) (sets : List RegSet) (reads carried back : List Reg)
    → is_some o ≡ has → Behind p bases backs sets reads carried back
    → places has (is_picked pick.Base r) (is_picked pick.Read r) next bases ≡ p ∷ []
    → places has (is_picked pick.Back r) (is_picked pick.Read r) next backs ≡ p ∷ []
    → next + length (cond (cond has (is_picked pick.Data r) false) (set ∷ sets) sets) ≡ p
    → Based (kept (is_picked pick.Read r) o reads) (kept (is_picked pick.Data r) o carried) (kept (is_picked pick.Back r) o back)
step-based has r None set next p bases backs sets reads carried back s rest e f count = by has r s e f count
  where
    same : (a b c : Bool) → Based reads carried back → Based (kept a None reads) (kept b None carried) (kept c None back)
    same a b c n = (n.0, kept-none c back ∙ n.1, kept-none a reads ∙ (n.2 ∙ ap (λ l. l ++ n.0 ∷ []) (sym (kept-none b carried))))

    by : (has : Bool) (r : Role) → false ≡ has → places has (is_picked pick.Base r) (is_picked pick.Read r) next bases ≡ p ∷ []
        → places has (is_picked pick.Back r) (is_picked pick.Read r) next backs ≡ p ∷ []
        → next + length (cond (cond has (is_picked pick.Data r) false) (set ∷ sets) sets) ≡ p
        → Based (kept (is_picked pick.Read r) None reads) (kept (is_picked pick.Data r) None carried) (kept (is_picked pick.Back r) None back)
    by true r s e f count = absurd cc
    by false r s e f count = same (is_picked pick.Read r) (is_picked pick.Data r) (is_picked pick.Back r) (rest.based next e f count)
step-based false r (Some q) set next p bases backs sets reads carried back s rest e f count = absurd cc
step-based true role.In (Some q) set next p bases backs sets reads carried back s rest e f count =
    let found = rest.based (next + 1) e f (omega arith) in
    (found.0, found.1, ap (λ l. q ∷ l) found.2)
step-based true role.Out (Some q) set next p bases backs sets reads carried back s rest e f count = rest.based next e f count
step-based true role.Tied (Some q) set next p bases backs sets reads carried back s rest e f count = rest.based next e f count
step-based true role.Base (Some q) set next p bases backs sets reads carried back s rest e f count =
    let here : next ≡ p = cc in let later : next + 1 ≤ p = rest.least (next + 1) [] f in absurd (omega arith)
step-based true role.Back (Some q) set next p bases backs sets reads carried back s rest e f count =
    let here : next ≡ p = cc in
    let none : bases (next + 1) ≡ [] = cc in
    base-here q reads carried back (rest.nothing (next + 1) none (omega arith))

reads-based : (operands : List Operand) (helds : List Held) (next p : ℕ) → Shaped operands helds → places_of pick.Base next operands ≡ p ∷ []
    → places_of pick.Back next operands ≡ p ∷ [] → next + length (classes pick.Data operands) ≡ p
    → Based (picked pick.Read operands helds) (picked pick.Data operands helds) (picked pick.Back operands helds)
unfolding places_of classes picked
reads-based [] helds next p s e f count = absurd cc
reads-based (operand ∷ operands) [] next p s e f count = absurd s
reads-based (operand ∷ operands) (held ∷ helds) next p s e f count =
    step-based (has_register operand.shape) operand.role held.register operand.class next p (λ m. places_of pick.Base m operands)
    (λ m. places_of pick.Back m operands) (classes pick.Data operands) (picked pick.Read operands helds) (picked pick.Data operands helds)
    (picked pick.Back operands helds) s.0.register
    (record {
      based = λ m. reads-based operands helds m p s.1;
      nothing = λ m. reads-nothing operands helds m s.1;
      least = λ m qs. places-least operands m p qs;
    }) e f count

-- ---- no base is written back

step-no_back : (has picks reads : Bool) (set : RegSet) (next : ℕ) (behind : ℕ → List ℕ) (sets : List RegSet) → ((m : ℕ) → behind m ≡ [] → sets ≡ [])
    → places has picks reads next behind ≡ [] → cond (cond has picks false) (set ∷ sets) sets ≡ []
step-no_back true true reads set next behind sets rest e = absurd cc
step-no_back true false true set next behind sets rest e = rest (next + 1) e
step-no_back true false false set next behind sets rest e = rest next e
step-no_back false picks reads set next behind sets rest e = rest next e

no-back : (operands : List Operand) (next : ℕ) → places_of pick.Back next operands ≡ [] → classes pick.Back operands ≡ []
unfolding places_of classes
no-back [] next e = refl
no-back (operand ∷ operands) next e =
    step-no_back (has_register operand.shape) (is_picked pick.Back operand.role) (is_picked pick.Read operand.role) operand.class next
    (λ m. places_of pick.Back m operands) (classes pick.Back operands) (λ m. no-back operands m) e

step-no_base : (has : Bool) (r : Role) (set : RegSet) (bases backs : List RegSet) → (length bases ≡ 0 → backs ≡ [])
    → length (cond (cond has (is_picked pick.Base r) false) (set ∷ bases) bases) ≡ 0
    → cond (cond has (is_picked pick.Back r) false) (set ∷ backs) backs ≡ []
step-no_base false r set bases backs rest e = rest e
step-no_base true role.In set bases backs rest e = rest e
step-no_base true role.Out set bases backs rest e = rest e
step-no_base true role.Tied set bases backs rest e = rest e
step-no_base true role.Base set bases backs rest e = absurd (omega arith)
step-no_base true role.Back set bases backs rest e = absurd (omega arith)

no-base : (operands : List Operand) → length (classes pick.Base operands) ≡ 0 → classes pick.Back operands ≡ []
unfolding classes
no-base [] e = refl
no-base (operand ∷ operands) e =
    step-no_base (has_register operand.shape) operand.role operand.class (classes pick.Base operands) (classes pick.Back operands)
    (no-base operands) e

-- ---- a row

empty-list : {A : Type 0} (xs : List A) → length xs ≡ 0 → xs ≡ []
empty-list [] e = refl
empty-list (x ∷ xs) e = absurd (omega arith)

-- what reading finds
shares-is : (row : Row) (helds : List Held) → shares_base row helds
    ≡ base_repeats (padded 1 (picked pick.Back (row_operands row) helds)) (padded 4 (picked pick.Data (row_operands row) helds))
unfolding shares_base
shares-is row helds =
    ap (λ bases. base_repeats bases (all_placed (padded 4 []) (picked pick.Data (row_operands row) helds)))
    (all_placed-padded 1 [] (picked pick.Back (row_operands row) helds))
    ∙ ap (base_repeats (padded 1 (picked pick.Back (row_operands row) helds))) (all_placed-padded 4 [] (picked pick.Data (row_operands row) helds))

-- What is asked of the registers of a row's operands, and what reading finds, are one.
abbrev IsAsRead : Row → List Held → Type 0
IsAsRead row helds = is_base_alone same_reg (info_of row) (read_regs row helds) ≡ not (shares_base row helds)

-- where no base is written back
without-back : (row : Row) (helds : List Held) → Shaped (row_operands row) helds → registers_suit (row_operands row) helds ≡ true
    → classes pick.Back (row_operands row) ≡ [] → IsAsRead row helds
unfolding info_of
without-back row helds s suit none =
    let regs : List Reg = picked pick.Back (row_operands row) helds in
    let count : length regs ≡ length (classes pick.Back (row_operands row)) =
    of-count regs (classes pick.Back (row_operands row)) (picked-of pick.Back (row_operands row) helds s suit) in
    let empty : regs ≡ [] = empty-list regs (count ∙ ap length none) in
    let place : Option ℕ = slice_get (places_of pick.Base 0 (row_operands row)) 0 in
    ap (λ sets. cond (is_some (back_place sets (length (classes pick.Written (row_operands row)))))
    (is_alone same_reg (read_regs row helds) (option_and_then (slice_get (read_regs row helds)) place)) true) none
    ∙ sym (ap not (shares-is row helds ∙ ap (λ bs. base_repeats (padded 1 bs) (padded 4 (picked pick.Data (row_operands row) helds))) empty))

-- where the last register that is read is
with-back : (name : ArchName) (t : Transfer) (row : Row) (helds : List Held) → SuitsTransfer name t row → Shaped (row_operands row) helds → registers_suit (row_operands row) helds ≡ true
    → length (input_classes row) ≤ 4 → places_of pick.Back 0 (row_operands row) ≡ base_place t ∷ [] → IsAsRead row helds
unfolding info_of
with-back name t row helds suits s suit few back =
    let carried : List Reg = picked pick.Data (row_operands row) helds in
    let reads : List Reg = picked pick.Read (row_operands row) helds in
    let more : List Reg = picked pick.Tied (row_operands row) helds ++ flags_among row.reads_flags in
    let found : Based reads carried (picked pick.Back (row_operands row) helds) =
    reads-based (row_operands row) helds 0 (base_place t) s suits.base back (let same : 0 + length (classes pick.Data (row_operands row)) ≡ base_place t = omega (arith, suits.behind) in same) in
    let b : Reg = found.0 in
    let many : length carried ≡ length (classes pick.Data (row_operands row)) =
    of-count carried (classes pick.Data (row_operands row)) (picked-of pick.Data (row_operands row) helds s suit) in
    let place : length carried ≡ base_place t = many ∙ suits.behind in
    let all : length (reads ++ more) ≡ length (input_classes row) = of-count (read_regs row helds) (input_classes row) (read-of row helds s suit) in
    let front : length reads ≡ length carried + 1 = ap length found.2 ∙ length-append carried (b ∷ []) in
    let sum : length (reads ++ more) ≡ length reads + length more = length-append reads more in
    let whole : length (input_classes row) ≡ base_place t + 1 = suits.all in
    let none : more ≡ [] = empty-list more (omega arith) in
    let regs : read_regs row helds ≡ carried ++ b ∷ [] = ap (λ l. reads ++ l) none ∙ (append-nil reads ∙ found.2) in
    let at : slice_get (carried ++ b ∷ []) (base_place t) ≡ Some b = ap (slice_get (carried ++ b ∷ [])) (sym place) ∙ slice_get-seam carried b in
    let some : is_some (back_place (classes pick.Back (row_operands row)) (length (classes pick.Written (row_operands row)))) ≡ true =
    has-back (classes pick.Back (row_operands row)) (length (classes pick.Written (row_operands row)))
    (sym (of-count _ _ (picked-of pick.Back (row_operands row) helds s suit)) ∙ ap length found.1) in
    ap (λ bs. cond bs (is_alone same_reg (read_regs row helds) (option_and_then (slice_get (read_regs row helds)) (slice_get (places_of pick.Base 0 (row_operands row)) 0))) true) some
    ∙ (ap (λ ps. is_alone same_reg (read_regs row helds) (option_and_then (slice_get (read_regs row helds)) (slice_get ps 0))) suits.base
    ∙ (ap (λ l. is_alone same_reg l (slice_get l (base_place t))) regs
    ∙ (ap (is_alone same_reg (carried ++ b ∷ [])) at
    ∙ (alone-last b 4 carried (omega arith)
    ∙ sym (ap not (shares-is row helds ∙ ap (λ bs. base_repeats (padded 1 bs) (padded 4 carried)) found.1))))))
  where
    has-back : (sets : List RegSet) (n : ℕ) → length sets ≡ 1 → is_some (back_place sets n) ≡ true
    has-back [] n e = absurd (omega arith)
    has-back (set ∷ sets) n e = refl

by-back : (name : ArchName) (writes : Bool) (t : Transfer) (row : Row) (helds : List Held) → writes_back t.addressing ≡ writes → SuitsTransfer name t row → Shaped (row_operands row) helds
    → registers_suit (row_operands row) helds ≡ true → length (input_classes row) ≤ 4 → IsAsRead row helds
by-back name true t row helds is suits s suit few = with-back name t row helds suits s suit few (suits.back ∙ ap (λ w. cond w (base_place t ∷ []) []) is)
by-back name false t row helds is suits s suit few =
    without-back row helds s suit (no-back (row_operands row) 0 (suits.back ∙ ap (λ w. cond w (base_place t ∷ []) []) is))

-- Where a row has no base, none is written back.
no-base-alone : (row : Row) (helds : List Held) (room : Bool) → cond room (lacks_base row) false ≡ true → Shaped (row_operands row) helds
    → registers_suit (row_operands row) helds ≡ true → IsAsRead row helds
no-base-alone row helds room e s suit =
    let none : length (classes pick.Base (row_operands row)) ≡ 0 = eqb-true _ 0 (then_parts room (lacks_base row) e).1 in
    without-back row helds s suit (no-base (row_operands row) none)

-- A base that is written back is alone among the registers that are read exactly where reading doesn't find it among the data.
pub base-apart : (name : ArchName) (m : Meaning) (row : Row) (helds : List Held) → suits_meaning name m row ≡ true → length (input_classes row) ≤ 4 → Shaped (row_operands row) helds
    → registers_suit (row_operands row) helds ≡ true → is_base_alone same_reg (info_of row) (read_regs row helds) ≡ not (shares_base row helds)
base-apart name (meaning.Scalar op size) row helds e few s suit = no-base-alone row helds (has_room name General (result_bits op size)) e s suit
base-apart name (meaning.Vector op) row helds e few s suit = no-base-alone row helds (has_vector_room name op) e s suit
base-apart name (meaning.Word op) row helds e few s suit = no-base-alone row helds (has_room name General 32) e s suit
base-apart name (meaning.Copy b) row helds e few s suit = no-base-alone row helds (has_room name b 32) e s suit
base-apart name (meaning.Memory t) row helds e few s suit = by-back name (writes_back t.addressing) t row helds refl (suits-transfer name t row e) s suit few
