-- A test of the classes of all forms, one item after the other.
use Rattle.std.proofs.Common.{◌≡◌, ℕ, suc, ◌+◌, ◌<◌, ◌≤◌, Bool, true, ◌&&◌, List, ◌++◌, length, get_or, drop, sym, ap, ◌∙◌, add-one, drop-cons}
use Rattle.std.specs.List.{list_all, flat_map}
use Rattle.std.proofs.lemmas.List.Folds.{list_all-append}
use Rattle.std.proofs.lemmas.List.{drop_all}
use Rattle.sl_model.specs.declared.instruction.FormInfo.{FormInfo}
use Rattle.sl_model.specs.declared.register.RegSet.{RegSet}
use Rattle.sl_model.specs.Graph.{no_info}

module _ (p : RegSet → Bool) where
  -- do the classes of the forms from a place on pass?
  abbrev pub all_from : ℕ → List FormInfo → Bool
  all_from k infos = list_all p (flat_map (λ info. info.in_sets ++ info.out_sets) (drop k infos))

  -- those of one form, and those behind it
  pub all-next : (infos : List FormInfo) (k : ℕ) → k < length infos
      → all_from k infos ≡ ((list_all p (get_or infos k no_info).in_sets && list_all p (get_or infos k no_info).out_sets) && all_from (k + 1) infos)
  all-next infos k within =
      let info = get_or infos k no_info in
      let rest = flat_map (λ (info : FormInfo). info.in_sets ++ info.out_sets) (drop (suc k) infos) in
      ap (λ (is : List FormInfo). list_all p (flat_map (λ info. info.in_sets ++ info.out_sets) is)) (drop-cons infos k no_info within)
      ∙ list_all-append p (info.in_sets ++ info.out_sets) rest
      ∙ ap (λ b. b && list_all p rest) (list_all-append p info.in_sets info.out_sets)
      ∙ ap (λ n. (list_all p info.in_sets && list_all p info.out_sets) && all_from n infos) (sym (add-one k))

  -- behind the last one there are none
  pub all-behind : (infos : List FormInfo) (k : ℕ) → length infos ≤ k → all_from k infos ≡ true
  all-behind infos k behind = ap (λ (is : List FormInfo). list_all p (flat_map (λ info. info.in_sets ++ info.out_sets) is)) (drop_all k infos behind)
