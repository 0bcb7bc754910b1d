-- What an edit does to the line of trees, and that it can be taken back.
use Rattle.std.proofs.Common.{◌≡◌, ℕ, ◌+◌, ◌-◌, ◌<◌, ◌≤◌, List, [], ◌∷◌, ◌++◌, length, take, drop, set, get_or, swap, swap_remove, refl, sym, ◌∙◌, arith}
use Rattle.std.proofs.lemmas.Grind.{common_steps}
use Rattle.std.proofs.lemmas.List.{take_more, length_push, get_or_push, take-take, length-take-le, length-set, get_or-take, ext_get_or}
use Rattle.std.proofs.lemmas.List.Edits.{swap_is, length-swap}
use Rattle.std.proofs.lemmas.Bool.{cases_eq}
use Rattle.pc_syntax.specs.Plain.{Plain}
use Rattle.pc_session.specs.declared.history.Last.{Last}
use Rattle.pc_session.specs.declared.history.Last.TheVariants.{Edited, Moved}
use Rattle.std.specs.List.{All}
use Rattle.std.proofs.lemmas.List.Elements.{All-push}
use Rattle.pc_session.specs.Trees.{IsProgram, edited}
use Rattle.pc_session.specs.Line.{none, trees_at, now_of, IsPlaced, IsLine, settled}
use Rattle.pc_session.proofs.ProgramSteps.{All-swap, settled-programs}

-- An element that is put at a place, and what stood there at the end.
module _ {X : Type 0} (xs : List X) (y d : X) (i : ℕ) (within : i ≤ length xs) where
  abbrev zs : List X
  zs = xs ++ y ∷ []

  abbrev x : X
  x = get_or zs i d

  abbrev put : List X
  put = swap zs i (length xs)

  put-is : put ≡ set (set zs i y) (length xs) x
  put-is =
      let long = length_push xs y in
      let last : get_or zs (length xs) d ≡ y = get_or_push xs y d (length xs) refl in
      let is : set (set zs i (get_or zs (length xs) d)) (length xs) x ≡ put = swap_is zs i (length xs) d (omega arith) (omega arith) in
      rw last at (sym is)

  pub take-put : take i put ≡ take i xs
  take-put = rw put-is (grind (arith, common_steps))

  pub get_or-put : get_or put i d ≡ y
  get_or-put = rw put-is (grind (arith, common_steps, cases_eq i (length xs)))

  at-put : (k : ℕ) → k < length xs → get_or (set put i x) k d ≡ get_or xs k d
  at-put k below = rw put-is (grind (arith, common_steps, cases_eq k i))

  pub swap_remove-put : swap_remove put i d ≡ xs
  swap_remove-put =
      let same_length = length-swap zs i (length xs) in
      let push_length = length_push xs y in
      let long : length put - 1 ≡ length xs = omega arith in
      let end : get_or put (length xs) d ≡ x = rw put-is (grind (arith, common_steps)) in
      let within_all : length xs ≤ length (set put i x) = rw length-set (omega arith) in
      let exact : length (take (length xs) (set put i x)) ≡ length xs = length-take-le (length xs) (set put i x) within_all in
      let is : swap_remove put i d ≡ take (length xs) (set put i x) = rw (long, end) refl in
      is ∙ ext_get_or d _ xs exact (λ k below. let b : k < length xs = omega arith in get_or-take (length xs) (set put i x) k d b ∙ at-put k b)

-- The line without what is only kept to take an edit back.

settled-long : (last : Last) (line : List Plain) (place : ℕ) → IsPlaced last line place → place + 1 ≤ length (settled last line place)
settled-long Edited line place placed = grind (arith, common_steps)
settled-long (Moved from) line place placed = omega (arith, placed.1)

settled-now : (last : Last) (line : List Plain) (place : ℕ) → IsPlaced last line place → trees_at (settled last line place) place ≡ now_of last line place
settled-now Edited line place placed =
    let front : take place (take (place + 1) line) ≡ take place line = take-take place (place + 1) line (omega arith) in
    let own : get_or (take (place + 1) line) place none ≡ get_or line place none = get_or-take (place + 1) line place none (omega arith) in
    let rest : drop (place + 1) (take (place + 1) line) ≡ [] = grind (arith, common_steps) in
    rw (front, own, rest) refl
settled-now (Moved from) line place placed = refl

-- The line after an edit, which is settled first.
module _ (last : Last) (line : List Plain) (place : ℕ) (tree : Plain) (placed : IsPlaced last line place) (kept pushed after : List Plain) (end : ℕ)
    (kept-is : kept ≡ settled last line place) (end-is : end ≡ length kept) (pushed-is : pushed ≡ kept ++ tree ∷ []) (after-is : after ≡ swap pushed (place + 1) end) where
  is : after ≡ swap (settled last line place ++ tree ∷ []) (place + 1) (length (settled last line place))
  is = rw (after-is, pushed-is, end-is, kept-is) refl

  pub edit-now : record { earlier = take (place + 1) after; tree = get_or after (place + 1) none; undone = [] } ≡ edited (now_of last line place) tree
  edit-now =
      let s = settled last line place in
      let long = settled-long last line place placed in
      let front : take (place + 1) after ≡ take (place + 1) s = rw is (take-put s tree none (place + 1) long) in
      let own : get_or after (place + 1) none ≡ tree = rw is (get_or-put s tree none (place + 1) long) in
      rw (← settled-now last line place placed, front, own, take_more s place none (omega arith)) refl

  pub edit-before : trees_at (swap_remove after (place + 1) none) (place + 1 - 1) ≡ now_of last line place
  edit-before =
      let s = settled last line place in
      let back : swap_remove after (place + 1) none ≡ s = rw is (swap_remove-put s tree none (place + 1) (settled-long last line place placed)) in
      let same : place + 1 - 1 ≡ place = omega arith in
      rw (back, same) (settled-now last line place placed)

  pub edit-line : All IsProgram line → IsProgram tree → IsLine Edited after (place + 1)
  edit-line all program =
      let s = settled last line place in
      let long = settled-long last line place placed in
      let pushed_long = length_push s tree in
      let swapped = length-swap (s ++ tree ∷ []) (place + 1) (length s) in
      let len : length after ≡ length (s ++ tree ∷ []) = rw is swapped in
      let own : place + 1 < length (s ++ tree ∷ []) = omega (arith, long, pushed_long) in
      let end_there : length s < length (s ++ tree ∷ []) = omega (arith, pushed_long) in
      record {
        placed = (omega arith, omega (arith, len, own));
        programs = rw is (All-swap IsProgram (s ++ tree ∷ []) (place + 1) (length s) none own end_there (All-push IsProgram s tree (settled-programs last line place all) program));
      }

-- A line that is settled and keeps its place.
pub kept-line : (last : Last) (line kept : List Plain) (place : ℕ) → IsLine last line place → kept ≡ settled last line place → IsLine (Moved place) kept place
kept-line last line kept place is same =
    let long = settled-long last line place is.placed in
    record { placed = rw same (omega (arith, long), omega (arith, long)); programs = rw same (settled-programs last line place is.programs) }
