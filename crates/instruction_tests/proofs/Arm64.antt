-- The greatest values of AArch64 fit their registers, and each form below 425 is known.
use Rattle.std.proofs.Common.{◌≡◌, refl, ℕ, ◌^◌, ◌<◌, ◌≤◌, arith, subst, sym, lit<}
use Rattle.sl_model.specs.declared.register.Bank.{Bank}
use Rattle.sl_model.specs.declared.register.Bank.TheVariants.{General, Vector, Flags, Stack}
use Rattle.form_isa.specs.TableIsa.{table_isa, table_language}
use Rattle.arm64_table.specs.Document.{each, document}
use Rattle.arm64_table.specs.Arm64.{arm64}
use Rattle.sl_model.specs.Machine.{limit_of, space_of}

-- a value below the limit of one bank, where a register is of that bank
pub in_bank : (wanted bank : Bank) (value : ℕ) → bank ≡ wanted → value < limit_of arm64.isa.name wanted → value < limit_of arm64.isa.name bank
in_bank wanted bank value is fits = subst (λ b. value < limit_of arm64.isa.name b) (sym is) fits

pub general : 18446744073709551615 < limit_of arm64.isa.name General
unfolding arm64 table_language table_isa
general = lit< tt

pub vector : 340282366920938463463374607431768211455 < limit_of arm64.isa.name Vector
unfolding arm64 table_language table_isa
vector = lit< tt

pub flags : 15 < limit_of arm64.isa.name Flags
unfolding arm64 table_language table_isa
flags = lit< tt

pub stack : 18446744073709551615 < limit_of arm64.isa.name Stack
unfolding arm64 table_language table_isa
stack = lit< tt

pub addressed : (address : ℕ) → address < 2 ^ 64 → address < space_of arm64.isa.name
unfolding arm64 table_language table_isa
addressed address h = h

pub below : (value most limit : ℕ) → value ≤ most → most < limit → value < limit
below value most limit p q = omega (arith, p, q)

forms_are_425 : arm64.isa.forms ≡ 425
unfolding arm64 table_language table_isa document each
forms_are_425 = refl

pub is_known : (form : ℕ) → form < 425 → form < arm64.isa.forms
is_known form h = subst (λ n. form < n) (sym forms_are_425) h
