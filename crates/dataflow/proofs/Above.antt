-- What stands above a number in the rest of an order.
use Rattle.std.proofs.Common.{◌≡◌, ℕ, ◌+◌, ◌<◌, ◌≤◌, true, false, ◌||◌, eqb, List, drop, length, get_or, ap, ◌∙◌}
use Rattle.std.proofs.lemmas.List.{at_drop_more, at_drop_all}
use Rattle.sl_model.specs.Body.{above, stands_in}
use Rattle.sl_laws.proofs.Orders.{above-first, above-later}

module _ (item other : ℕ) (order : List ℕ) (i : ℕ) where
  -- a number that isn't the item is above it
  pub above-next : i < length order → eqb (get_or order i 0) item ≡ false
      → stands_in other (above item (drop i order)) ≡ (eqb (get_or order i 0) other || stands_in other (above item (drop (i + 1) order)))
  unfolding stands_in
  above-next within differs =
      at_drop_more (λ xs. stands_in other (above item xs)) order i 0 within
      ∙ ap (stands_in other) (above-later (get_or order i 0) item (drop (i + 1) order) differs)

  -- nothing is above the item from there on
  pub above-found : i < length order → eqb (get_or order i 0) item ≡ true → stands_in other (above item (drop i order)) ≡ false
  unfolding stands_in
  above-found within same =
      at_drop_more (λ xs. stands_in other (above item xs)) order i 0 within
      ∙ ap (stands_in other) (above-first (get_or order i 0) item (drop (i + 1) order) same)

  pub above-end : length order ≤ i → stands_in other (above item (drop i order)) ≡ false
  unfolding above stands_in
  above-end past = at_drop_all (λ xs. stands_in other (above item xs)) order i past
