-- Each edit of a program makes a program.
use Rattle.std.proofs.Common.{◌≡◌, ◌-◌, ◌+◌, ◌<◌, ℕ, Bool, true, false, ◌&&◌, not, List, [], ◌∷◌, length, get_or, set, swap, swap_remove, Option, Some, None, Ok, Err, inl, inr, refl, sym, arith, if◌then◌else◌}
use Rattle.std.specs.Prelude.{MatchBool, MatchOption, nat_le, nat_lt, remove}
use Rattle.std.specs.List.{All}
use Rattle.std.specs.Option.{option_map_or}
use Rattle.std.proofs.lemmas.List.Elements.{All-take, All-set, All-get_or}
use Rattle.std.proofs.lemmas.List.Edits.{swap_is}
use Rattle.pc_syntax.specs.declared.class.Class.{Class}
use Rattle.pc_syntax.specs.declared.class.Class.TheVariants as class
use Rattle.pc_syntax.specs.declared.error.EditError.{EditError}
use Rattle.pc_syntax.specs.declared.error.EditError.TheVariants as edit
use Rattle.pc_syntax.specs.Plain.{Plain, node, kids_of}
use Rattle.pc_syntax.specs.Classes.{has}
use Rattle.pc_syntax.specs.Slots.{is_list, least_of, class_from}
use Rattle.pc_syntax.specs.Parts.{kid_at}
use Rattle.pc_syntax.specs.Make.{Answers}
use Rattle.pc_syntax.specs.Blanks.{blank}
use Rattle.pc_syntax.specs.Places.{at, with_kid, put}
use Rattle.pc_syntax.specs.Edits.{gives_way, PutAnswers, with_more, has_room, AddAnswers, without_kid, cut_kid, cut}
use Rattle.pc_pretty.specs.declared.range.Range.{Range}
use Rattle.pc_session.specs.declared.made.Made.{Made}
use Rattle.pc_session.specs.declared.history.Last.{Last}
use Rattle.pc_session.specs.declared.history.Last.TheVariants.{Edited, Moved}
use Rattle.pc_session.specs.Trees.{IsProgram}
use Rattle.pc_session.specs.Line.{settled}
use Rattle.pc_session.specs.Editing.{Writes, Retypes, Puts, Adds, Places, Fills, Cuts}

-- A node in the place of a kid leaves the root.
put-below : (i : ℕ) (is : List ℕ) (p q : Plain) → IsProgram p → IsProgram (put (i ∷ is) p q)
unfolding node
put-below i is p q program = elim (kid_at p i) as (λ o. IsProgram (option_map_or (λ k. with_kid p (i - 1) (put is k q)) o p)) [ None ↦ program | Some k ↦ program ]

unplaced : (t : Plain) (e : EditError) {G : Type 0} → Ok t ≡ Err e → G
unplaced t e same = cc

right : (a b : Bool) → (a && b) ≡ true → b ≡ true
right true b both = both
right false b both = cc

-- A piece at the root is a program.
put-root : (p q t : Plain) (way : Bool) → gives_way [] p.kind q.kind ≡ way → MatchBool way (Answers q (Ok t)) (Ok t ≡ Err edit.NotFit) → IsProgram t
put-root p q t true is answers = rw answers.1 (right (not (is_list p.kind)) (has class.Program q.kind) is)
put-root p q t false is answers = unplaced t edit.NotFit answers

-- Where a node is there and gives way, the tree is made; else there is none.
picked : (way : Bool) (q t : Plain) (e : EditError) → IsProgram q → MatchBool way (Answers q (Ok t)) (Ok t ≡ Err e) → IsProgram t
picked true q t e program made = rw made.1 program
picked false q t e program unmade = unplaced t e unmade

chosen : (o : Option Plain) (way : Plain → Bool) (q : Plain → Plain) (t : Plain) (e : EditError) → ((old : Plain) → IsProgram (q old)) →
    MatchOption o (Ok t ≡ Err edit.NoPlace) (λ old. MatchBool (way old) (Answers (q old) (Ok t)) (Ok t ≡ Err e)) → IsProgram t
chosen None way q t e program none = unplaced t edit.NoPlace none
chosen (Some old) way q t e program made = picked (way old) (q old) t e (program old) made

put-program : (path : List ℕ) (p q t : Plain) → IsProgram p → PutAnswers p path q (Ok t) → IsProgram t
put-program [] p q t program answers = put-root p q t (gives_way [] p.kind q.kind) refl answers
put-program (i ∷ is) p q t program answers =
    chosen (at (i ∷ is) p) (λ old. gives_way (i ∷ is) old.kind q.kind) (λ _. put (i ∷ is) p q) t edit.NotFit (λ _. put-below i is p q program) answers

add-program : (path : List ℕ) (p : Plain) (k : ℕ) (q t : Plain) → IsProgram p → AddAnswers p path k q (Ok t) → IsProgram t
unfolding node
add-program [] p k q t program answers = picked (has_room p k) (with_more p (k - 1) q) t edit.NoPlace program answers
add-program (i ∷ is) p k q t program answers =
    chosen (at (i ∷ is) p) (λ list. has_room list k) (λ list. put (i ∷ is) p (with_more list (k - 1) q)) t edit.NoPlace (λ list. put-below i is p (with_more list (k - 1) q) program) answers

without_kid-program : (p : Plain) (i : ℕ) → IsProgram p → IsProgram (without_kid p i)
unfolding node kids_of
without_kid-program p i program =
    elim (nat_le (length (kids_of p)) 1) as (λ b. IsProgram (if b then node p.kind [] [] [] else node p.kind p.word p.notes (remove (kids_of p) i))) [ true ↦ program | false ↦ program ]

blanked : (p : Plain) (i : ℕ) (o : Option Class) → IsProgram p → IsProgram (option_map_or (λ c. with_kid p i (blank c)) o p)
unfolding node
blanked p i None program = program
blanked p i (Some c) program = program

cut_kid-program : (p : Plain) (i : ℕ) → IsProgram p → IsProgram (cut_kid p i)
unfolding node
cut_kid-program p i program =
    elim (is_list p.kind && nat_lt (least_of p.kind) (length (kids_of p))) as (λ b. IsProgram (if b then without_kid p i else option_map_or (λ c. with_kid p i (blank c)) (class_from p.kind i) p))
    [ true ↦ without_kid-program p i program | false ↦ blanked p i (class_from p.kind i) program ]

cut-below : (i j : ℕ) (js : List ℕ) (p : Plain) (o : Option Plain) → IsProgram p → IsProgram (option_map_or (λ k. with_kid p (i - 1) (cut (j ∷ js) k)) o p)
unfolding node
cut-below i j js p None program = program
cut-below i j js p (Some k) program = program

cut-program : (path : List ℕ) (p : Plain) → IsProgram p → IsProgram (cut path p)
unfolding node
cut-program [] p program = refl
cut-program (i ∷ []) p program = cut_kid-program p (i - 1) program
cut-program (i ∷ j ∷ js) p program = cut-below i j js p (kid_at p i) program

-- The edits.

pub Writes-program : (text : List ℕ) (p : Plain) (made : Made) → Writes text p (Ok made) → IsProgram made.tree
Writes-program text p made writes = writes.0.read.has_text.reads.member

pub Retypes-program : (range : Range) (new : List ℕ) (p : Plain) (made : Made) → Retypes range new p (Ok made) → IsProgram made.tree
Retypes-program range new p made retypes = Writes-program retypes.0 p made retypes.2

pub Puts-program : (path name : List ℕ) (p : Plain) (made : Made) → IsProgram p → Puts path name p (Ok made) → IsProgram made.tree
Puts-program path name p made program puts = put-program path p puts.0.1.0 made.tree program puts.0.1.2

pub Adds-program : (path : List ℕ) (k : ℕ) (name : List ℕ) (p : Plain) (made : Made) → IsProgram p → Adds path k name p (Ok made) → IsProgram made.tree
Adds-program path k name p made program adds = add-program path p k adds.0.1.0 made.tree program adds.0.1.2

places-program : (path : List ℕ) (q p t : Plain) → IsProgram p → Places path q p (Ok t) → IsProgram t
places-program path q p t program (inl within) = put-program path p q t program within.1
places-program path q p t program (inr over) = absurd over.1

pub Fills-program : (path text : List ℕ) (p : Plain) (made : Made) → IsProgram p → Fills path text p (Ok made) → IsProgram made.tree
Fills-program path text p made program fills = places-program path fills.2.0 p made.tree program fills.2.2

pub Cuts-program : (path : List ℕ) (p : Plain) (made : Made) → IsProgram p → Cuts path p (Ok made) → IsProgram made.tree
Cuts-program path p made program cuts = rw cuts.1 (cut-program path p program)

-- The lines of trees.

pub All-swap : {X : Type 0} (P : X → Type 0) (xs : List X) (i j : ℕ) (d : X) → i < length xs → j < length xs → All P xs → All P (swap xs i j)
All-swap P xs i j d first second all =
    let is = swap_is xs i j d first second in
    rw (sym is) (All-set P (set xs i (get_or xs j d)) j (get_or xs i d) (All-get_or P xs i d first all) (All-set P xs i (get_or xs j d) (All-get_or P xs j d second all) all))

pub All-swap_remove : {X : Type 0} (P : X → Type 0) (xs : List X) (i : ℕ) (d : X) → i < length xs → All P xs → All P (swap_remove xs i d)
All-swap_remove P xs i d within all =
    All-take P (length xs - 1) (set xs i (get_or xs (length xs - 1) d)) (All-set P xs i (get_or xs (length xs - 1) d) (All-get_or P xs (length xs - 1) d (omega arith) all) all)

pub settled-programs : (last : Last) (line : List Plain) (place : ℕ) → All IsProgram line → All IsProgram (settled last line place)
settled-programs Edited line place all = All-take IsProgram (place + 1) line all
settled-programs (Moved from) line place all = all
