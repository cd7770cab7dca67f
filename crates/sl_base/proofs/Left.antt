-- What is left of a file behind a read.
use Rattle.std.proofs.Common.{◌≡◌, ℕ, ◌+◌, List, [], ◌++◌, length, take, drop, None, Some, Ok, refl, sym, ap, ◌∙◌, subst}
use Rattle.std.proofs.Math.Seq.{drop-drop, drop-append_seam}
use Rattle.std.specs.Io.KnownBytes.{Keeps, Consumes, prepend_known}
use Rattle.std.specs.declared.option.Option.{Option}
use Rattle.sl_base.specs.declared.files.Failed.{Failed}
use Rattle.sl_base.specs.Host.{left_of, AreLeft, Reads}

-- what a reader had left begins with the bytes that it gave, and goes on behind them
gone_on : (bytes : List ℕ) (given n : ℕ) (now new read : List ℕ) → n ≡ length read → now ≡ drop given bytes → now ≡ read ++ new → new ≡ drop (given + n) bytes
gone_on bytes given n now new read count left consumed =
    sym (drop-append_seam read new) ∙ ap (λ k. drop k (read ++ new)) (sym count) ∙ ap (drop n) (sym consumed ∙ left) ∙ drop-drop n given bytes

-- the reader has those behind them left
still_left : (bytes : List ℕ) (given n : ℕ) (old new : Option (List ℕ)) (read : List ℕ) → n ≡ length read
    → Keeps (Some (drop given bytes)) old → Consumes old new read → Keeps (Some (drop (given + n) bytes)) new
still_left bytes given n None new read count left consumed = absurd left
still_left bytes given n (Some now) None read count left consumed = absurd consumed
still_left bytes given n (Some now) (Some then) read count left consumed = gone_on bytes given n now then read count left consumed

-- what was left is the bytes given, before those behind them
given_first : (bytes : List ℕ) (given n : ℕ) (old new : Option (List ℕ)) (read : List ℕ) → n ≡ length read
    → Keeps (Some (drop given bytes)) old → Consumes old new read → drop given bytes ≡ read ++ drop (given + n) bytes
given_first bytes given n None new read count left consumed = absurd left
given_first bytes given n (Some now) None read count left consumed = absurd consumed
given_first bytes given n (Some now) (Some then) read count left consumed =
    sym left ∙ consumed ∙ ap (λ l. read ++ l) (gone_on bytes given n now then read count left consumed)

module _ {R : Type 0} (remaining : R → Option (List ℕ)) where
  -- a read leaves the reader at the bytes behind those that it gave
  pub left_behind : (known : Option (List ℕ)) (given n : ℕ) (old new : Option R) (buffer : List ℕ) → n ≡ length (take n buffer)
      → AreLeft remaining known given old → Reads {E = Failed} remaining old new (Ok n) buffer → AreLeft remaining known (given + n) new
  left_behind known given n None new buffer count left reads = subst (AreLeft remaining known (given + n)) (sym reads.0) tt
  left_behind known given n (Some old) None buffer count left reads = absurd reads
  left_behind None given n (Some old) (Some new) buffer count left reads = tt
  left_behind (Some bytes) given n (Some old) (Some new) buffer count left reads =
      still_left bytes given n (remaining old) (remaining new) (take n buffer) count left reads.0

  -- what was left before a read is what it gave, before what is left behind it
  pub left_before : (known : Option (List ℕ)) (given n : ℕ) (old new : Option R) (buffer : List ℕ) → n ≡ length (take n buffer)
      → AreLeft remaining known given old → Reads {E = Failed} remaining old new (Ok n) buffer
      → left_of known given old ≡ prepend_known (take n buffer) (left_of known (given + n) new)
  left_before known given n None new buffer count left reads =
      let none : n ≡ 0 = cc in
      let P : Option R → Type 0 = λ o. Some [] ≡ prepend_known (take n buffer) (left_of known (given + n) o) in
      subst P (sym reads.0) (ap (λ k. prepend_known (take k buffer) (Some [])) (sym none))
  left_before known given n (Some old) None buffer count left reads = absurd reads
  left_before None given n (Some old) (Some new) buffer count left reads = refl
  left_before (Some bytes) given n (Some old) (Some new) buffer count left reads =
      ap Some (given_first bytes given n (remaining old) (remaining new) (take n buffer) count left reads.0)
