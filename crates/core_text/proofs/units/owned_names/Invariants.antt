use Rattle.std.proofs.Common.{◌≡◌, map, take, string_bytes}
use Rattle.core_text.proofs.units.owned_names.Given as goal

-- the copies so far are of the names so far
abbrev pub invariant-loop-name : goal.invariant-loop-name
invariant-loop-name l = map string_bytes l.owned.items ≡ map (λ name. name.now) (take l.name-index l.names)
