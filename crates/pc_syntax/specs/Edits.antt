-- What putting, adding and cutting a node answer.
use Rattle.std.specs.Prelude.{◌≡◌, ℕ, ◌-◌, Bool, not, ◌&&◌, nat_lt, nat_le, if◌then◌else◌, List, [], ◌∷◌, Result, Ok, Err, MatchOption, MatchBool, ◌+◌, length, insert, remove}
use Rattle.std.specs.Option.{option_map_or}
use Rattle.pc_syntax.specs.declared.kind.Kind.{Kind}
use Rattle.pc_syntax.specs.declared.class.Class.TheVariants as class
use Rattle.pc_syntax.specs.declared.error.EditError.{EditError}
use Rattle.pc_syntax.specs.declared.error.EditError.TheVariants.{NoPlace, NotFit, NoMemory}
use Rattle.pc_syntax.specs.Plain.{Plain, node, kids_of}
use Rattle.pc_syntax.specs.Classes.{has}
use Rattle.pc_syntax.specs.Slots.{is_list, least_of, class_from}
use Rattle.pc_syntax.specs.Parts.{kid_at}
use Rattle.pc_syntax.specs.Make.{Answers}
use Rattle.pc_syntax.specs.Blanks.{blank}
use Rattle.pc_syntax.specs.Places.{at, with_kid, put}

-- whether a node of the kind before may give way to one of the kind after, its class aside: no list does, and the root stays a program
abbrev pub gives_way : List ℕ → Kind → Kind → Bool
gives_way [] before after = not (is_list before) && has class.Program after
gives_way (i ∷ is) before after = not (is_list before)

-- what putting a piece at a path answers: there is no such node, or it doesn't give way to the piece, or the new tree decides
abbrev pub PutAnswers : Plain → List ℕ → Plain → Result Plain EditError → Type 0
PutAnswers p path piece result =
    MatchOption (at path p) (result ≡ Err NoPlace) (λ old. MatchBool (gives_way path old.kind piece.kind) (Answers (put path p piece) result) (result ≡ Err NotFit))

-- a list with one more element at a place, counted from 0
abbrev pub with_more : Plain → ℕ → Plain → Plain
with_more p i q = node p.kind p.word p.notes (insert (kids_of p) i q)

-- whether an element with this number, from 1, can come to a node: that is a list, and the number is at most one more than its length
abbrev pub has_room : Plain → ℕ → Bool
has_room p k = is_list p.kind && (nat_le 1 k && nat_le k (length (kids_of p) + 1))

-- what adding a piece as element k of the list at a path answers: there is no such place, or the new tree decides
abbrev pub AddAnswers : Plain → List ℕ → ℕ → Plain → Result Plain EditError → Type 0
AddAnswers p path k piece result =
    MatchOption (at path p) (result ≡ Err NoPlace) (λ list. MatchBool (has_room list k) (Answers (put path p (with_more list (k - 1) piece)) result) (result ≡ Err NoPlace))

-- a list without the element at a place, counted from 0; one that becomes empty loses its notes
abbrev pub without_kid : Plain → ℕ → Plain
without_kid p i = if nat_le (length (kids_of p)) 1 then node p.kind [] [] [] else node p.kind p.word p.notes (remove (kids_of p) i)

-- a node without its kid at a place, counted from 0: an element that its list can spare goes, and any other kid is written anew
abbrev pub cut_kid : Plain → ℕ → Plain
cut_kid p i =
    if is_list p.kind && nat_lt (least_of p.kind) (length (kids_of p)) then without_kid p i
    else option_map_or (λ c. with_kid p i (blank c)) (class_from p.kind i) p

-- a tree without the node at a path, which is there
abbrev pub cut : List ℕ → Plain → Plain
cut [] p = blank class.Program
cut (i ∷ []) p = cut_kid p (i - 1)
cut (i ∷ j ∷ js) p = option_map_or (λ k. with_kid p (i - 1) (cut (j ∷ js) k)) (kid_at p i) p

-- the tree was made, or there was no memory
abbrev pub IsMade : Plain → Result Plain EditError → Type 0
IsMade p (Ok t) = t ≡ p
IsMade p (Err e) = e ≡ NoMemory

-- what cutting the node at a path answers: there is no such node, or the tree without it
abbrev pub CutAnswers : Plain → List ℕ → Result Plain EditError → Type 0
CutAnswers p path result = MatchOption (at path p) (result ≡ Err NoPlace) (λ _. IsMade (cut path p) result)
