-- What a verdict says: which outcome of which tree it is, and that all before it are nothing.
use Rattle.std.proofs.Common.{◌≡◌, ℕ, zero, suc, ◌+◌, ◌<◌, ◌≤◌, List, [], ◌∷◌, ◌++◌, map, length, ⊎_elim, refl, sym, ap, ◌∙◌, subst, arith}
use Rattle.std.proofs.lemmas.Bool.{cases_lt}
use Rattle.sl_laws.proofs.Members.{Has}
use Rattle.search_space.specs.Levels.{Tree, Outcome, outcome, Verdict, level_verdict, verdict_from, verdict}
use Rattle.search_space.specs.Levels.Outcome.{Found, Spent, Nothing}
use Rattle.search_space.specs.Levels.Verdict.{First, Infeasible}

-- All trees of some have nothing.
abbrev pub HaveNothing : (Tree → Outcome) → List Tree → Type 0
HaveNothing f trees = (tree : Tree) → Has tree trees → f tree ≡ Nothing

-- An outcome is the first of some trees that isn't nothing: that of a tree at a place, and those before it have nothing.
pub record IsFirstOutcome (f : Tree → Outcome) (trees : List Tree) (place : ℕ) (o : Outcome) : Type 0 where
  pub before : List Tree
  pub tree : Tree
  pub behind : List Tree
  pub is : trees ≡ before ++ tree ∷ behind
  pub at : length before ≡ place
  pub says : f tree ≡ o
  pub some : o ≡ Nothing → ⊥
  pub nothing : HaveNothing f before

module _ (f : Tree → Outcome) where
  -- the first tree
  outcome-here : (tree : Tree) (trees : List Tree) (o : Outcome) → f tree ≡ o → (o ≡ Nothing → ⊥) → IsFirstOutcome f (tree ∷ trees) 0 o
  outcome-here tree trees o says some = record { before = []; tree = tree; behind = trees; is = refl; at = refl; says = says; some = some; nothing = λ v h. absurd h }

  -- one more tree in front, which has nothing
  outcome-behind : (tree : Tree) (trees : List Tree) (place : ℕ) (o : Outcome) → f tree ≡ Nothing → IsFirstOutcome f trees place o → IsFirstOutcome f (tree ∷ trees) (place + 1) o
  outcome-behind tree trees place o none first = record {
    before = tree ∷ first.before;
    tree = first.tree;
    behind = first.behind;
    is = ap (λ l. tree ∷ l) first.is;
    at = (let at : length first.before ≡ place = first.at in let more : suc (length first.before) ≡ place + 1 = omega arith in more);
    says = first.says;
    some = first.some;
    nothing = λ v h. ⊎_elim (λ (here : tree ≡ v). ap f (sym here) ∙ none) (λ (there : Has v first.before). first.nothing v there) h;
  }

  -- so all have nothing where the first has, and those behind it
  nothing-behind : (tree : Tree) (trees : List Tree) → f tree ≡ Nothing → HaveNothing f trees → HaveNothing f (tree ∷ trees)
  nothing-behind tree trees none rest v h = ⊎_elim (λ (here : tree ≡ v). ap f (sym here) ∙ none) (λ (there : Has v trees). rest v there) h

-- What the verdict of a level is: the first outcome of a tree of the level, or what the later levels say.
data LevelSays (f : Tree → Outcome) (trees : List Tree) (level start : ℕ) (later v : Verdict) : Type 0 where
  Here : (place : ℕ) (o : Outcome) → IsFirstOutcome f trees place o → v ≡ First level (start + place) o → LevelSays f trees level start later v
  Later : HaveNothing f trees → v ≡ later → LevelSays f trees level start later v

level-says : (f : Tree → Outcome) (trees : List Tree) (level start : ℕ) (later : Verdict) → LevelSays f trees level start later (level_verdict level start (map f trees) later)
unfolding level_verdict
level-says f [] level start later = Later (λ v h. absurd h) refl
level-says f (tree ∷ trees) level start later = by (f tree) refl (level-says f trees level (start + 1) later)
  where
    first_place : (o : Outcome) → First level start o ≡ First level (start + 0) o
    first_place o = let same : start ≡ start + 0 = omega arith in ap (λ n. First level n o) same

    behind : f tree ≡ Nothing → (v : Verdict) → LevelSays f trees level (start + 1) later v → LevelSays f (tree ∷ trees) level start later v
    behind none v (Here place o first is) =
        let same : start + 1 + place ≡ start + (place + 1) = omega arith in
        Here (place + 1) o (outcome-behind f tree trees place o none first) (is ∙ ap (λ n. First level n o) same)
    behind none v (Later rest is) = Later (nothing-behind f tree trees none rest) is

    by : (o : Outcome) → f tree ≡ o → LevelSays f trees level (start + 1) later (level_verdict level (start + 1) (map f trees) later)
        → LevelSays f (tree ∷ trees) level start later (level_verdict level start (o ∷ map f trees) later)
    by (Found x) e rest = Here 0 (Found x) (outcome-here f tree trees (Found x) e (λ no. cc)) (first_place (Found x))
    by Spent e rest = Here 0 Spent (outcome-here f tree trees Spent e (λ no. cc)) (first_place Spent)
    by Nothing e rest = behind e (level_verdict level (start + 1) (map f trees) later) rest

-- What a verdict of some levels is: the first outcome of a tree of one of them, where all lower levels have nothing; or
-- all have nothing.
data Says (f : ℕ → Tree → Outcome) (forest : List Tree) (low more : ℕ) (v : Verdict) : Type 0 where
  At : (level place : ℕ) (o : Outcome) → low ≤ level → level < low + more → IsFirstOutcome (f level) forest place o
      → ((lower : ℕ) → low ≤ lower → lower < level → HaveNothing (f lower) forest) → v ≡ First level place o → Says f forest low more v
  Nowhere : ((level : ℕ) → low ≤ level → level < low + more → HaveNothing (f level) forest) → v ≡ Infeasible → Says f forest low more v

says : (f : ℕ → Tree → Outcome) (forest : List Tree) (low more : ℕ) → Says f forest low more (verdict_from (λ level. map (f level) forest) low more)
unfolding verdict_from
says f forest low zero = Nowhere (λ level from below. absurd (omega arith)) refl
says f forest low (suc more) =
    by (level_verdict low 0 (map (f low) forest) rest) (level-says (f low) forest low 0 rest) (says f forest (low + 1) more)
  where
    rest : Verdict
    rest = verdict_from (λ level. map (f level) forest) (low + 1) more

    -- what holds of this level and of those above it
    each : (P : ℕ → Type 0) (level : ℕ) → P low → (low < level → P level) → low ≤ level → P level
    each P level here above from = ⊎_elim
        (λ (later : low < level). above later)
        (λ (same : level ≤ low). let e : low ≡ level = omega arith in subst P e here)
        (cases_lt low level)

    later : (v : Verdict) → HaveNothing (f low) forest → Says f forest (low + 1) more v → Says f forest low (suc more) v
    later v none (At level place o from below first lower is) =
        At level place o (omega arith) (omega arith) first
        (λ under from_under less. each (λ n. HaveNothing (f n) forest) under none (λ above. lower under (omega arith) less) from_under) is
    later v none (Nowhere all is) =
        Nowhere (λ level from below. each (λ n. HaveNothing (f n) forest) level none (λ above. all level (omega arith) (omega arith)) from) is

    by : (v : Verdict) → LevelSays (f low) forest low 0 rest v → Says f forest (low + 1) more rest → Says f forest low (suc more) v
    by v (Here place o first is) behind =
        let same : 0 + place ≡ place = omega arith in
        At low place o (omega arith) (omega arith) first (λ lower from less. absurd (omega arith)) (is ∙ ap (λ n. First low n o) same)
    by v (Later none is) behind = subst (Says f forest low (suc more)) (sym is) (later rest none behind)

module _ (forest : List Tree) (most budget : ℕ) where
  -- What a verdict with an outcome says: a tree has it at the level, which isn't above the most stalls; the trees before it
  -- have nothing there, and all trees have nothing at each lower level.
  pub record IsVerdict (level place : ℕ) (o : Outcome) : Type 0 where
    pub within : level ≤ most
    pub first : IsFirstOutcome (outcome budget level) forest place o
    pub lower : (under : ℕ) → under < level → HaveNothing (outcome budget under) forest

  -- an outcome
  pub verdict-first : (level place : ℕ) (o : Outcome) → verdict forest most budget ≡ First level place o → IsVerdict level place o
  unfolding verdict
  verdict-first level place o is = by (verdict_from (λ level. map (outcome budget level) forest) 0 (most + 1)) (says (outcome budget) forest 0 (most + 1)) is
    where
      by : (v : Verdict) → Says (outcome budget) forest 0 (most + 1) v → v ≡ First level place o → IsVerdict level place o
      by v (At l p q from below first lower same) e =
          let all : First l p q ≡ First level place o = sym same ∙ e in
          let at_level : l ≡ level = cc in
          let at_place : p ≡ place = cc in
          let at_outcome : q ≡ o = cc in
          record {
            within = omega arith;
            first = subst (λ n. IsFirstOutcome (outcome budget n) forest place o) at_level
                (subst (λ n. IsFirstOutcome (outcome budget l) forest n o) at_place
                (subst (λ w. IsFirstOutcome (outcome budget l) forest p w) at_outcome first));
            lower = λ under less. lower under (omega arith) (omega arith);
          }
      by v (Nowhere all same) e = absurd (let no : Infeasible ≡ First level place o = sym same ∙ e in cc)

  -- none
  pub verdict-infeasible : verdict forest most budget ≡ Infeasible → (level : ℕ) → level ≤ most → HaveNothing (outcome budget level) forest
  unfolding verdict
  verdict-infeasible is level within = by (verdict_from (λ level. map (outcome budget level) forest) 0 (most + 1)) (says (outcome budget) forest 0 (most + 1)) is
    where
      by : (v : Verdict) → Says (outcome budget) forest 0 (most + 1) v → v ≡ Infeasible → HaveNothing (outcome budget level) forest
      by v (At l p q from below first lower same) e = absurd (let no : First l p q ≡ Infeasible = sym same ∙ e in cc)
      by v (Nowhere all same) e = all level (omega arith) (omega arith)
