-- What is answered to a command is determined.
use Rattle.std.proofs.Common.{◌≡◌, ◌≢◌, ℕ, Bool, true, false, List, [], Option, Some, None, Result, Ok, Err, ◌⊎◌, inl, inr, refl, sym, ◌∙◌, ap, arith, subst, ◌-◌, ◌∷◌, ◌++◌}
use Rattle.std.specs.Prelude.{MatchBool, MatchOption}
use Rattle.std.specs.Option.{IsSome}
use Rattle.pc_syntax.specs.declared.error.EditError.{EditError}
use Rattle.pc_syntax.specs.declared.error.EditError.TheVariants as edit
use Rattle.pc_syntax.specs.Plain.{Plain}
use Rattle.pc_syntax.specs.Make.{Answers}
use Rattle.pc_syntax.specs.Places.{at, put}
use Rattle.pc_syntax.specs.Edits.{gives_way, PutAnswers, with_more, has_room, AddAnswers}
use Rattle.pc_syntax.specs.Templates.{template_of}
use Rattle.pc_syntax.specs.declared.class.Class.{Class}
use Rattle.pc_syntax.specs.declared.class.Class.TheVariants as class
use Rattle.pc_syntax.specs.declared.sort.Sort.{Sort}
use Rattle.pc_lex.specs.declared.error.LexError.{LexError}
use Rattle.pc_lex.specs.declared.symbol.Span.{Span}
use Rattle.pc_lex.specs.Spells.{PlainSymbol}
use Rattle.pc_lex.specs.Laws.{Spells-unique, Spells-faultless}
use Rattle.pc_parse.specs.Reading.{class_of}
use Rattle.pc_parse.specs.Answers.{IsUnfit, IsWithin}
use Rattle.pc_parse.specs.Laws.{OneNumber}
use Rattle.pc_pretty.specs.declared.range.Range.{Range}
use Rattle.pc_pretty.specs.Printed.{printed}
use Rattle.pc_pretty.specs.Ranges.{range_span, replaced}
use Rattle.pc_partial.specs.Retyping.{IsNewText}
use Rattle.pc_command.specs.declared.refusal.Refusal.{Refusal}
use Rattle.pc_command.specs.declared.refusal.Refusal.TheVariants as refusal
use Rattle.pc_session.specs.declared.accepted.Accepted.{Accepted}
use Rattle.pc_session.specs.declared.made.Made.{Made}
use Rattle.pc_session.specs.PlainSession.{PlainSession, with_trees}
use Rattle.pc_session.specs.TreesLaws.{one_undo, one_redo}
use Rattle.pc_session.specs.Loading.{IsFaulty, IsWritten, Drops, IsMisfit}
use Rattle.pc_session.specs.LoadingLaws.{one_written, one_dropped, one_fault, written_fits, written_is_faultless, misfit_is_faultless}
use Rattle.pc_session.specs.Editing.{IsOver, WritesOver, Writes, Rewrites, Retypes, takes_element, Puts, Adds, Cuts, sort_at, IsAtList, Places, WritesUnplaced, Fills}
use Rattle.pc_session.specs.Making.{refused}
use Rattle.pc_session.specs.Commands.{Accepts}
use Rattle.pc_session.specs.CommandsLaws.{MakesOne, OneEdit, OneUndone, OneRedone, OneShown}

-- From what an edit makes to what is answered to it.

same-accepted : (a b : Accepted) → a.count ≡ b.count → a.dropped ≡ b.dropped → a ≡ b
same-accepted a b count dropped = λ i. record { count = count i; dropped = dropped i }

abbrev accepts : Accepted → Result Accepted Refusal
accepts a = Ok a

abbrev refuses : Refusal → Result Accepted Refusal
refuses e = Err e

abbrev edits : Made → Result Made Refusal
edits made = Ok made

abbrev unedited : Refusal → Result Made Refusal
unedited e = Err e

abbrev unmade : EditError → Result Plain EditError
unmade e = Err e

abbrev counts : ℕ → Result ℕ Refusal
counts n = Ok n

accepted : (s t u : PlainSession) (m : Made) (a b : Accepted) → Accepts s m a t → Accepts s m b u → (accepts a ≡ accepts b) × (t ≡ u)
accepted s t u m a b p q =
    let left : t ≡ u = p.leaves ∙ sym q.leaves in
    let count : a.count ≡ b.count = p.counted ∙ ap (λ x. x.count) left ∙ sym q.counted in
    (ap accepts (same-accepted a b count (p.dropped ∙ sym q.dropped)), left)

pub one_edit : (makes : Plain → Result Made Refusal → Type 0) → MakesOne makes → OneEdit makes
one_edit makes one s t u (Ok a) (Ok b) left right p q =
    let same = one s.trees.tree (Ok p.0) (Ok q.0) (λ e. cc) (λ e. cc) p.1 q.1 in
    let is : q.0 ≡ p.0 = cc in
    accepted s t u p.0 a b p.2 (subst (λ x. Accepts s x b u) is q.2)
one_edit makes one s t u (Ok a) (Err f) left right p q =
    let same = one s.trees.tree (Ok p.0) (Err f) (λ e. cc) (λ z. right cc) p.1 q.0 in
    cc
one_edit makes one s t u (Err e) (Ok b) left right p q =
    let same = one s.trees.tree (Err e) (Ok q.0) (λ z. left cc) (λ e. cc) p.0 q.1 in
    cc
one_edit makes one s t u (Err e) (Err f) left right p q =
    let same = one s.trees.tree (Err e) (Err f) (λ z. left cc) (λ z. right cc) p.0 q.0 in
    let is : e ≡ f = cc in
    (ap refuses is, p.1 ∙ sym q.1)

-- Undo and redo.

same-session : (s t u : PlainSession) → t ≡ with_trees s t.trees → u ≡ with_trees s u.trees → t.trees ≡ u.trees → t ≡ u
same-session s t u p q same = p ∙ ap (with_trees s) same ∙ sym q

answered : (t u : PlainSession) (m n : ℕ) → m ≡ t.count → n ≡ u.count → t ≡ u → (counts m ≡ counts n) × (t ≡ u)
answered t u m n p q same = (ap counts (p ∙ ap (λ x. x.count) same ∙ sym q), same)

some-earlier : {X : Type 0} (xs : List X) (x : X) → xs ++ x ∷ [] ≡ [] → ⊥
some-earlier [] x e = cc
some-earlier (y ∷ ys) x e = cc

pub one_undone : OneUndone
one_undone s t u (Ok m) (Ok n) p q = answered t u m n p.2 q.2 (same-session s t u p.1 q.1 (one_undo s.trees t.trees u.trees p.0 q.0))
one_undone s t u (Ok m) (Err refusal.NothingToUndo) p q = absurd (some-earlier t.trees.earlier t.trees.tree (sym p.0.earlier ∙ q.0))
one_undone s t u (Ok m) (Err _) p never = absurd never
one_undone s t u (Err refusal.NothingToUndo) (Ok n) p q = absurd (some-earlier u.trees.earlier u.trees.tree (sym q.0.earlier ∙ p.0))
one_undone s t u (Err refusal.NothingToUndo) (Err refusal.NothingToUndo) p q = (refl, p.1 ∙ sym q.1)
one_undone s t u (Err refusal.NothingToUndo) (Err _) p never = absurd never
one_undone s t u (Err _) b never q = absurd never

pub one_redone : OneRedone
one_redone s t u (Ok m) (Ok n) p q = answered t u m n p.2 q.2 (same-session s t u p.1 q.1 (one_redo t.trees u.trees s.trees p.0 q.0))
one_redone s t u (Ok m) (Err refusal.NothingToRedo) p q = let none = sym p.0.undone ∙ q.0 in cc
one_redone s t u (Ok m) (Err _) p never = absurd never
one_redone s t u (Err refusal.NothingToRedo) (Ok n) p q = let none = sym q.0.undone ∙ p.0 in cc
one_redone s t u (Err refusal.NothingToRedo) (Err refusal.NothingToRedo) p q = (refl, p.1 ∙ sym q.1)
one_redone s t u (Err refusal.NothingToRedo) (Err _) p never = absurd never
one_redone s t u (Err _) b never q = absurd never

pub one_shown : OneShown
one_shown name s text other p q = p ∙ sym q

-- Making a tree.

one_making : (q : Plain) (a b : Result Plain EditError) → a ≢ Err edit.NoMemory → b ≢ Err edit.NoMemory → Answers q a → Answers q b → a ≡ b
one_making q (Ok t) (Ok u) left right p r = rw (p.1, r.1) refl
one_making q (Ok t) (Err edit.NotFit) left right p r = absurd (r p.0.sound)
one_making q (Ok t) (Err (edit.TooDeep d)) left right p r = let no : ⊥ = omega (arith, p.0.shallow, r.1) in absurd no
one_making q (Ok t) (Err (edit.TooLarge n)) left right p r = let no : ⊥ = omega (arith, p.0.small, r.2) in absurd no
one_making q (Ok t) (Err edit.NoPlace) left right p r = absurd r
one_making q a (Err edit.NoMemory) left right p r = absurd (right refl)
one_making q (Err edit.NoMemory) b left right p r = absurd (left refl)
one_making q (Err edit.NoPlace) b left right p r = absurd p
one_making q (Err edit.NotFit) (Ok u) left right p r = absurd (p r.0.sound)
one_making q (Err edit.NotFit) (Err edit.NotFit) left right p r = refl
one_making q (Err edit.NotFit) (Err (edit.TooDeep d)) left right p r = absurd (p r.0)
one_making q (Err edit.NotFit) (Err (edit.TooLarge n)) left right p r = absurd (p r.0)
one_making q (Err edit.NotFit) (Err edit.NoPlace) left right p r = absurd r
one_making q (Err (edit.TooDeep d)) (Ok u) left right p r = let no : ⊥ = omega (arith, r.0.shallow, p.1) in absurd no
one_making q (Err (edit.TooDeep d)) (Err edit.NotFit) left right p r = absurd (r p.0)
one_making q (Err (edit.TooDeep d)) (Err (edit.TooDeep c)) left right p r = rw (p.2, r.2) refl
one_making q (Err (edit.TooDeep d)) (Err (edit.TooLarge n)) left right p r = let no : ⊥ = omega (arith, p.1, r.1) in absurd no
one_making q (Err (edit.TooDeep d)) (Err edit.NoPlace) left right p r = absurd r
one_making q (Err (edit.TooLarge n)) (Ok u) left right p r = let no : ⊥ = omega (arith, r.0.small, p.2) in absurd no
one_making q (Err (edit.TooLarge n)) (Err edit.NotFit) left right p r = absurd (r p.0)
one_making q (Err (edit.TooLarge n)) (Err (edit.TooDeep d)) left right p r = let no : ⊥ = omega (arith, p.1, r.1) in absurd no
one_making q (Err (edit.TooLarge n)) (Err (edit.TooLarge m)) left right p r = rw (p.3, r.3) refl
one_making q (Err (edit.TooLarge n)) (Err edit.NoPlace) left right p r = absurd r

one_way : (way : Bool) (q : Plain) (e : EditError) (a b : Result Plain EditError) → a ≢ Err edit.NoMemory → b ≢ Err edit.NoMemory →
    MatchBool way (Answers q a) (a ≡ Err e) → MatchBool way (Answers q b) (b ≡ Err e) → a ≡ b
one_way true q e a b left right p r = one_making q a b left right p r
one_way false q e a b left right p r = p ∙ sym r

pub one_choice : (o : Option Plain) (way : Plain → Bool) (q : Plain → Plain) (e : EditError) (a b : Result Plain EditError) → a ≢ Err edit.NoMemory → b ≢ Err edit.NoMemory →
    MatchOption o (a ≡ Err edit.NoPlace) (λ old. MatchBool (way old) (Answers (q old) a) (a ≡ Err e)) →
    MatchOption o (b ≡ Err edit.NoPlace) (λ old. MatchBool (way old) (Answers (q old) b) (b ≡ Err e)) → a ≡ b
one_choice None way q e a b left right p r = p ∙ sym r
one_choice (Some old) way q e a b left right p r = one_way (way old) (q old) e a b left right p r

-- Templates: there is no place, or no template, or the piece decides.

abbrev made_of : Result Plain EditError → Result Made Refusal
made_of (Ok t) = Ok (record { tree = t; dropped = 0 })
made_of (Err e) = Err (refused e)

-- The piece decides so.
record Decides (S : Type 0) (name : List ℕ) (A : Plain → Result Plain EditError → Type 0) (a : Result Made Refusal) : Type 0 where
  there : S
  piece : Plain
  named : template_of name ≡ Some piece
  result : Result Plain EditError
  answers : A piece result
  free : result ≢ Err edit.NoMemory
  is : a ≡ made_of result

-- There is no template.
record Untemplated (S : Type 0) (name : List ℕ) (a : Result Made Refusal) : Type 0 where
  there : S
  none : template_of name ≡ None
  is : a ≡ Err refusal.NoTemplate

abbrev Way : (N S : Type 0) → List ℕ → (Plain → Result Plain EditError → Type 0) → Result Made Refusal → Type 0
Way N S name A a = (N × (a ≡ Err refusal.NoPlace)) ⊎ (Untemplated S name a ⊎ Decides S name A a)

module _ (N S : Type 0) (apart : N → S → ⊥) (name : List ℕ) (A : Plain → Result Plain EditError → Type 0)
    (one : (q : Plain) (a b : Result Plain EditError) → a ≢ Err edit.NoMemory → b ≢ Err edit.NoMemory → A q a → A q b → a ≡ b) where
  one_template : (a b : Result Made Refusal) → Way N S name A a → Way N S name A b → a ≡ b
  one_template a b (inl x) (inl y) = x.1 ∙ sym y.1
  one_template a b (inl x) (inr (inl y)) = absurd (apart x.0 y.there)
  one_template a b (inl x) (inr (inr y)) = absurd (apart x.0 y.there)
  one_template a b (inr (inl x)) (inl y) = absurd (apart y.0 x.there)
  one_template a b (inr (inl x)) (inr (inl y)) = x.is ∙ sym y.is
  one_template a b (inr (inl x)) (inr (inr y)) = let no = sym x.none ∙ y.named in cc
  one_template a b (inr (inr x)) (inl y) = absurd (apart y.0 x.there)
  one_template a b (inr (inr x)) (inr (inl y)) = let no = sym x.named ∙ y.none in cc
  one_template a b (inr (inr x)) (inr (inr y)) =
      let some : Some x.piece ≡ Some y.piece = sym x.named ∙ y.named in
      let piece : y.piece ≡ x.piece = cc in
      let P : Plain → Type 0 = λ q. A q y.result in
      x.is ∙ ap made_of (one x.piece x.result y.result x.free y.free x.answers (subst P piece y.answers)) ∙ sym y.is

unnumbered : (number : ℕ) → number ≡ 0 → unedited (refusal.NotFit number) ≡ unedited (refusal.NotFit 0)
unnumbered number is = rw is refl

undropped : (made : Made) → made.dropped ≡ 0 → made_of (Ok made.tree) ≡ edits made
undropped made none = λ i. Ok (record { tree = made.tree; dropped = sym none i })

no_node : (o : Option Plain) → o ≡ None → IsSome o → ⊥
no_node None none some = cc
no_node (Some p) none some = cc

module _ (path name : List ℕ) (p : Plain) where
  abbrev PutWay : Result Made Refusal → Type 0
  PutWay a = Way (at path p ≡ None) (IsSome (at path p)) name (λ q r. PutAnswers p path q r) a

  put-way : (a : Result Made Refusal) → a ≢ Err refusal.NoMemory → Puts path name p a → PutWay a
  put-way (Ok made) free x = inr (inr (record { there = x.0.0; piece = x.0.1.0; named = x.0.1.1.named; result = Ok made.tree; answers = x.0.1.2; free = λ e. cc; is = sym (undropped made x.1) }))
  put-way (Err refusal.NoPlace) free x = inl (x, refl)
  put-way (Err refusal.NoTemplate) free x = inr (inl (record { there = x.0; none = x.1; is = refl }))
  put-way (Err (refusal.NotFit number)) free x = inr (inr (record { there = x.1.0; piece = x.1.1.0; named = x.1.1.1.named; result = Err edit.NotFit; answers = x.1.1.2; free = λ e. cc; is = unnumbered number x.0 }))
  put-way (Err (refusal.TooDeep d)) free x = inr (inr (record { there = x.0; piece = x.1.0; named = x.1.1.named; result = Err (edit.TooDeep d); answers = x.1.2; free = λ e. cc; is = refl }))
  put-way (Err (refusal.TooLarge n)) free x = inr (inr (record { there = x.0; piece = x.1.0; named = x.1.1.named; result = Err (edit.TooLarge n); answers = x.1.2; free = λ e. cc; is = refl }))
  put-way (Err refusal.NoMemory) free x = absurd (free refl)
  put-way (Err _) free never = absurd never

  pub one_put : (a b : Result Made Refusal) → a ≢ Err refusal.NoMemory → b ≢ Err refusal.NoMemory → Puts path name p a → Puts path name p b → a ≡ b
  one_put a b left right x y =
      one_template (at path p ≡ None) (IsSome (at path p)) (no_node (at path p)) name (λ q r. PutAnswers p path q r)
      (λ q r v free_r free_v. one_choice (at path p) (λ old. gives_way path old.kind q.kind) (λ _. put path p q) edit.NotFit r v free_r free_v)
      a b (put-way a left x) (put-way b right y)

module _ (path : List ℕ) (k : ℕ) (name : List ℕ) (p : Plain) where
  abbrev AddWay : Result Made Refusal → Type 0
  AddWay a = Way (takes_element path k p ≡ false) (takes_element path k p ≡ true) name (λ q r. AddAnswers p path k q r) a

  add-way : (a : Result Made Refusal) → a ≢ Err refusal.NoMemory → Adds path k name p a → AddWay a
  add-way (Ok made) free x = inr (inr (record { there = x.0.0; piece = x.0.1.0; named = x.0.1.1.named; result = Ok made.tree; answers = x.0.1.2; free = λ e. cc; is = sym (undropped made x.1) }))
  add-way (Err refusal.NoPlace) free x = inl (x, refl)
  add-way (Err refusal.NoTemplate) free x = inr (inl (record { there = x.0; none = x.1; is = refl }))
  add-way (Err (refusal.NotFit number)) free x = inr (inr (record { there = x.1.0; piece = x.1.1.0; named = x.1.1.1.named; result = Err edit.NotFit; answers = x.1.1.2; free = λ e. cc; is = unnumbered number x.0 }))
  add-way (Err (refusal.TooDeep d)) free x = inr (inr (record { there = x.0; piece = x.1.0; named = x.1.1.named; result = Err (edit.TooDeep d); answers = x.1.2; free = λ e. cc; is = refl }))
  add-way (Err (refusal.TooLarge n)) free x = inr (inr (record { there = x.0; piece = x.1.0; named = x.1.1.named; result = Err (edit.TooLarge n); answers = x.1.2; free = λ e. cc; is = refl }))
  add-way (Err refusal.NoMemory) free x = absurd (free refl)
  add-way (Err _) free never = absurd never

  pub one_add : (a b : Result Made Refusal) → a ≢ Err refusal.NoMemory → b ≢ Err refusal.NoMemory → Adds path k name p a → Adds path k name p b → a ≡ b
  one_add a b left right x y =
      one_template (takes_element path k p ≡ false) (takes_element path k p ≡ true) (λ no yes. let e = sym no ∙ yes in cc) name (λ q r. AddAnswers p path k q r)
      (λ q r v free_r free_v. one_choice (at path p) (λ list. has_room list k) (λ list. put path p (with_more list (k - 1) q)) edit.NoPlace r v free_r free_v)
      a b (add-way a left x) (add-way b right y)

same-made : (a b : Made) → a.tree ≡ b.tree → a.dropped ≡ b.dropped → a ≡ b
same-made a b tree dropped = λ i. record { tree = tree i; dropped = dropped i }

pub one_cut : (path : List ℕ) (p : Plain) (a b : Result Made Refusal) → a ≢ Err refusal.NoMemory → b ≢ Err refusal.NoMemory → Cuts path p a → Cuts path p b → a ≡ b
one_cut path p (Ok m) (Ok n) left right x y = ap edits (same-made m n (x.1 ∙ sym y.1) (x.2 ∙ sym y.2))
one_cut path p (Ok m) (Err refusal.NoPlace) left right x y = absurd (no_node (at path p) y x.0)
one_cut path p (Err refusal.NoPlace) (Ok n) left right x y = absurd (no_node (at path p) x y.0)
one_cut path p (Err refusal.NoPlace) (Err refusal.NoPlace) left right x y = refl
one_cut path p a (Err refusal.NoMemory) left right x y = absurd (right refl)
one_cut path p (Err refusal.NoMemory) b left right x y = absurd (left refl)
one_cut path p (Ok m) (Err _) left right x never = absurd never
one_cut path p (Err refusal.NoPlace) (Err _) left right x never = absurd never
one_cut path p (Err _) b left right never y = absurd never

-- Texts: the number of a misfit is one.
one_misfit : OneNumber → (c : Class) (text : List ℕ) (j k : ℕ) → IsMisfit c text j → IsMisfit c text k → j ≡ k
one_misfit one c text j k x y =
    let e : x.symbols ≡ y.symbols = (Spells-unique text x.symbols y.symbols x.tail y.tail x.spells y.spells).0 in
    let P : List PlainSymbol → Type 0 = λ ss. IsUnfit c ss k in
    one c x.symbols j k x.unfit (subst P (sym e) y.unfit)

one_over : (t : Plain) (a b : EditError) → IsOver t (Err a) → IsOver t (Err b) → a ≡ b
one_over t (edit.TooDeep d) (edit.TooDeep c) x y = ap (λ n. edit.TooDeep n) (x.1 ∙ sym y.1)
one_over t (edit.TooDeep d) (edit.TooLarge n) x y = let no : ⊥ = omega (arith, x.0, y.0) in absurd no
one_over t (edit.TooLarge n) (edit.TooDeep d) x y = let no : ⊥ = omega (arith, x.0, y.0) in absurd no
one_over t (edit.TooLarge n) (edit.TooLarge m) x y = ap (λ k. edit.TooLarge k) (x.2 ∙ sym y.2)
one_over t (edit.TooDeep d) (_) x never = absurd never
one_over t (edit.TooLarge n) (_) x never = absurd never
one_over t (_) b never y = absurd never

over-outside : (t : Plain) (e : EditError) → IsOver t (Err e) → ¬ IsWithin t
over-outside t (edit.TooDeep d) x within = omega (arith, x.0, within.shallow)
over-outside t (edit.TooLarge n) x within = omega (arith, x.1, within.small)
over-outside t (_) never within = absurd never

-- Writing a program.

over-written : (text : List ℕ) (t : Plain) (e : EditError) → IsWritten class.Program text t → IsWithin t → WritesOver text e → ⊥
over-written text t e written within x =
    let same : x.0 ≡ t = one_written class.Program text x.0 t x.1 written in
    let P : Plain → Type 0 = λ u. IsOver u (Err e) in
    over-outside t e (subst P same x.2) within

one_overwritten : (text : List ℕ) (e f : EditError) → WritesOver text e → WritesOver text f → e ≡ f
one_overwritten text e f x y =
    let same : y.0 ≡ x.0 = one_written class.Program text y.0 x.0 y.1 x.1 in
    let P : Plain → Type 0 = λ u. IsOver u (Err f) in
    one_over x.0 e f x.2 (subst P same y.2)

-- The ways in which a program is written.
data Written (text : List ℕ) (a : Result Made Refusal) : Type 0 where
  Made_so : (made : Made) → IsWritten class.Program text made.tree → IsWithin made.tree → Drops text made.tree made.dropped → a ≡ Ok made → Written text a
  Faulty : (f : LexError) → IsFaulty text f → a ≡ Err (refusal.Lex f) → Written text a
  Misfit : (k : ℕ) → IsMisfit class.Program text k → a ≡ Err (refusal.NotFit k) → Written text a
  Over : (e : EditError) → WritesOver text e → a ≡ Err (refused e) → Written text a

write-way : (text : List ℕ) (p : Plain) (a : Result Made Refusal) → a ≢ Err refusal.NoMemory → Writes text p a → Written text a
write-way text p (Ok made) free x = Made_so made x.0 x.1 x.2 refl
write-way text p (Err (refusal.Lex f)) free x = Faulty f x refl
write-way text p (Err (refusal.NotFit k)) free x = Misfit k x refl
write-way text p (Err (refusal.TooDeep d)) free x = Over (edit.TooDeep d) x refl
write-way text p (Err (refusal.TooLarge n)) free x = Over (edit.TooLarge n) x refl
write-way text p (Err refusal.NoMemory) free x = absurd (free refl)
write-way text p (Err _) free never = absurd never

one_writing : OneNumber → (text : List ℕ) (a b : Result Made Refusal) → Written text a → Written text b → a ≡ b
one_writing one text a b (Made_so m w i d is) (Made_so n v j e same) =
    let tree : m.tree ≡ n.tree = one_written class.Program text m.tree n.tree w v in
    let P : Plain → Type 0 = λ t. Drops text t n.dropped in
    is ∙ ap edits (same-made m n tree (one_dropped text m.tree m.dropped n.dropped d (subst P (sym tree) e))) ∙ sym same
one_writing one text a b (Made_so m w i d is) (Faulty f x same) = absurd (written_is_faultless class.Program text m.tree f w x)
one_writing one text a b (Made_so m w i d is) (Misfit k x same) = absurd (written_fits class.Program text m.tree k w x)
one_writing one text a b (Made_so m w i d is) (Over e x same) = absurd (over-written text m.tree e w i x)
one_writing one text a b (Faulty f x is) (Made_so m w i d same) = absurd (written_is_faultless class.Program text m.tree f w x)
one_writing one text a b (Faulty f x is) (Faulty g y same) = is ∙ ap (λ z. unedited (refusal.Lex z)) (one_fault text f g x y) ∙ sym same
one_writing one text a b (Faulty f x is) (Misfit k y same) = absurd (misfit_is_faultless class.Program text k f y x)
one_writing one text a b (Faulty f x is) (Over e y same) = absurd (written_is_faultless class.Program text y.0 f y.1 x)
one_writing one text a b (Misfit k x is) (Made_so m w i d same) = absurd (written_fits class.Program text m.tree k w x)
one_writing one text a b (Misfit k x is) (Faulty f y same) = absurd (misfit_is_faultless class.Program text k f x y)
one_writing one text a b (Misfit k x is) (Misfit j y same) = is ∙ ap (λ z. unedited (refusal.NotFit z)) (one_misfit one class.Program text k j x y) ∙ sym same
one_writing one text a b (Misfit k x is) (Over e y same) = absurd (written_fits class.Program text y.0 k y.1 x)
one_writing one text a b (Over e x is) (Made_so m w i d same) = absurd (over-written text m.tree e w i x)
one_writing one text a b (Over e x is) (Faulty f y same) = absurd (written_is_faultless class.Program text x.0 f x.1 y)
one_writing one text a b (Over e x is) (Misfit k y same) = absurd (written_fits class.Program text x.0 k x.1 y)
one_writing one text a b (Over e x is) (Over f y same) = is ∙ ap (λ z. unedited (refused z)) (one_overwritten text e f x y) ∙ sym same

pub one_load : OneNumber → (text : List ℕ) (p : Plain) (a b : Result Made Refusal) → a ≢ Err refusal.NoMemory → b ≢ Err refusal.NoMemory → Writes text p a → Writes text p b → a ≡ b
one_load one text p a b left right x y = one_writing one text a b (write-way text p a left x) (write-way text p b right y)

-- Retyping: there is no range, or the new text is written.

one_new_text : (p : Plain) (range : Range) (new text other : List ℕ) → IsNewText p range new text → IsNewText p range new other → text ≡ other
one_new_text p range new text other x y =
    let some : Some x.0 ≡ Some y.0 = sym x.1 ∙ y.1 in
    let span : x.0 ≡ y.0 = cc in
    x.2 ∙ ap (λ s. replaced (printed p) s new) span ∙ sym y.2

abbrev RetypeWay : Range → List ℕ → Plain → Result Made Refusal → Type 0
RetypeWay range new p a = ((range_span (printed p) range ≡ None) × (a ≡ Err refusal.BadRange)) ⊎ Rewrites range new p a

retype-way : (range : Range) (new : List ℕ) (p : Plain) (a : Result Made Refusal) → a ≢ Err refusal.NoMemory → Retypes range new p a → RetypeWay range new p a
retype-way range new p (Ok made) free x = inr x
retype-way range new p (Err refusal.BadRange) free x = inl (x, refl)
retype-way range new p (Err refusal.NoMemory) free x = absurd (free refl)
retype-way range new p (Err refusal.NoPlace) free x = inr x
retype-way range new p (Err refusal.NoTemplate) free x = inr x
retype-way range new p (Err (refusal.Lex f)) free x = inr x
retype-way range new p (Err (refusal.NotFit k)) free x = inr x
retype-way range new p (Err (refusal.TooDeep d)) free x = inr x
retype-way range new p (Err (refusal.TooLarge n)) free x = inr x
retype-way range new p (Err refusal.NothingToUndo) free x = inr x
retype-way range new p (Err refusal.NothingToRedo) free x = inr x

no_span : (o : Option Span) (s : Span) → o ≡ None → o ≡ Some s → ⊥
no_span o s none some = let no = sym none ∙ some in cc

one_retyping : OneNumber → (range : Range) (new : List ℕ) (p : Plain) (a b : Result Made Refusal) → a ≢ Err refusal.NoMemory → b ≢ Err refusal.NoMemory →
    RetypeWay range new p a → RetypeWay range new p b → a ≡ b
one_retyping one range new p a b left right (inl x) (inl y) = x.1 ∙ sym y.1
one_retyping one range new p a b left right (inl x) (inr y) = absurd (no_span (range_span (printed p) range) y.1.0 x.0 y.1.1)
one_retyping one range new p a b left right (inr x) (inl y) = absurd (no_span (range_span (printed p) range) x.1.0 y.0 x.1.1)
one_retyping one range new p a b left right (inr x) (inr y) =
    let text : y.0 ≡ x.0 = one_new_text p range new y.0 x.0 y.1 x.1 in
    let P : List ℕ → Type 0 = λ t. Writes t p b in
    one_load one x.0 p a b left right x.2 (subst P text y.2)

pub one_retype : OneNumber → (range : Range) (new : List ℕ) (p : Plain) (a b : Result Made Refusal) → a ≢ Err refusal.NoMemory → b ≢ Err refusal.NoMemory →
    Retypes range new p a → Retypes range new p b → a ≡ b
one_retype one range new p a b left right x y = one_retyping one range new p a b left right (retype-way range new p a left x) (retype-way range new p b right y)

-- Filling: there is no place, or the text is faulty, or the place is a list, or the text is a misfit there, or the piece decides.

one_placing : (path : List ℕ) (q p : Plain) (a b : Result Plain EditError) → a ≢ Err edit.NoMemory → b ≢ Err edit.NoMemory → Places path q p a → Places path q p b → a ≡ b
one_placing path q p a b left right (inl x) (inl y) = one_choice (at path p) (λ old. gives_way path old.kind q.kind) (λ _. put path p q) edit.NotFit a b left right x.1 y.1
one_placing path q p a b left right (inl x) (inr y) = absurd (y.0 x.0)
one_placing path q p a b left right (inr x) (inl y) = absurd (x.0 y.0)
one_placing path q p (Err e) (Err f) left right (inr x) (inr y) = ap unmade (one_over (put path p q) e f x.1 y.1)
one_placing path q p (Ok t) b left right (inr x) (inr y) = absurd x.1
one_placing path q p (Err e) (Ok u) left right (inr x) (inr y) = absurd y.1

data Filled (path text : List ℕ) (p : Plain) (a : Result Made Refusal) : Type 0 where
  No_place : at path p ≡ None → a ≡ Err refusal.NoPlace → Filled path text p a
  Faulty_text : (f : LexError) → IsSome (at path p) → IsFaulty text f → a ≡ Err (refusal.Lex f) → Filled path text p a
  At_list : IsAtList path text p → a ≡ Err (refusal.NotFit 0) → Filled path text p a
  Misfit_text : (k : ℕ) (sort : Sort) → sort_at path p ≡ Some sort → IsMisfit (class_of sort) text k → a ≡ Err (refusal.NotFit k) → Filled path text p a
  Put_so : (sort : Sort) (q : Plain) (made : Made) → sort_at path p ≡ Some sort → IsWritten (class_of sort) text q → Places path q p (Ok made.tree) → Drops text q made.dropped → a ≡ Ok made → Filled path text p a
  Not_put : (sort : Sort) (q : Plain) (e : EditError) → sort_at path p ≡ Some sort → IsWritten (class_of sort) text q → Places path q p (Err e) → e ≢ edit.NoMemory → a ≡ Err (refused e) → Filled path text p a

fill-unfit : (path text : List ℕ) (p : Plain) (k : ℕ) → k ≡ 0 → IsAtList path text p ⊎ WritesUnplaced path text p edit.NotFit → Filled path text p (Err (refusal.NotFit k))
fill-unfit path text p k zero (inl x) = At_list x (unnumbered k zero)
fill-unfit path text p k zero (inr x) = Not_put x.0 x.2.0 edit.NotFit x.1 x.2.1 x.2.2 (λ e. cc) (unnumbered k zero)

fill-way : (path text : List ℕ) (p : Plain) (a : Result Made Refusal) → a ≢ Err refusal.NoMemory → Fills path text p a → Filled path text p a
fill-way path text p (Ok made) free x = Put_so x.0 x.2.0 made x.1 x.2.1 x.2.2 x.2.3 refl
fill-way path text p (Err refusal.NoPlace) free x = No_place x refl
fill-way path text p (Err (refusal.Lex f)) free x = Faulty_text f x.0 x.1 refl
fill-way path text p (Err (refusal.NotFit k)) free (inl x) = fill-unfit path text p k x.0 x.1
fill-way path text p (Err (refusal.NotFit k)) free (inr x) = Misfit_text k x.0 x.1 x.2 refl
fill-way path text p (Err (refusal.TooDeep d)) free x = Not_put x.0 x.2.0 (edit.TooDeep d) x.1 x.2.1 x.2.2 (λ e. cc) refl
fill-way path text p (Err (refusal.TooLarge n)) free x = Not_put x.0 x.2.0 (edit.TooLarge n) x.1 x.2.1 x.2.2 (λ e. cc) refl
fill-way path text p (Err refusal.NoMemory) free x = absurd (free refl)
fill-way path text p (Err _) free never = absurd never

no_sort : (path : List ℕ) (p : Plain) (sort : Sort) → at path p ≡ None → sort_at path p ≡ Some sort → ⊥
no_sort path p sort none sorted = let no = rw none at sorted in cc

unsorted : (o : Option Sort) (sort : Sort) → o ≡ None → o ≡ Some sort → ⊥
unsorted o sort none some = let no = sym none ∙ some in cc

one_sort : (o : Option Sort) (c d : Sort) → o ≡ Some c → o ≡ Some d → c ≡ d
one_sort o c d x y = let same = sym x ∙ y in cc

list_faultless : (path text : List ℕ) (p : Plain) (f : LexError) → IsAtList path text p → IsFaulty text f → ⊥
list_faultless path text p f x y = Spells-faultless text x.spelled.symbols x.spelled.tail f x.spelled.spells y.first

fits_not : (o : Option Sort) (text : List ℕ) (k : ℕ) (c d : Sort) (q : Plain) → o ≡ Some c → o ≡ Some d → IsMisfit (class_of c) text k → IsWritten (class_of d) text q → ⊥
fits_not o text k c d q x y misfit written =
    let M : Sort → Type 0 = λ e. IsMisfit (class_of e) text k in
    written_fits (class_of d) text q k written (subst M (one_sort o c d x y) misfit)

one_piece : (o : Option Sort) (text : List ℕ) (c d : Sort) (q r : Plain) → o ≡ Some c → o ≡ Some d → IsWritten (class_of c) text q → IsWritten (class_of d) text r → q ≡ r
one_piece o text c d q r x y left right =
    let W : Sort → Type 0 = λ e. IsWritten (class_of e) text r in
    one_written (class_of c) text q r left (subst W (sym (one_sort o c d x y)) right)

one_result : (path : List ℕ) (q r p : Plain) (a b : Result Plain EditError) → q ≡ r → a ≢ Err edit.NoMemory → b ≢ Err edit.NoMemory → Places path q p a → Places path r p b → a ≡ b
one_result path q r p a b same left right x y =
    let P : Plain → Type 0 = λ t. Places path t p b in
    one_placing path q p a b left right x (subst P (sym same) y)

unplace : (e : EditError) → e ≢ edit.NoMemory → unmade e ≢ unmade edit.NoMemory
unplace e other same = other cc

placed_not : (path : List ℕ) (q r p t : Plain) (e : EditError) → q ≡ r → e ≢ edit.NoMemory → Places path q p (Ok t) → Places path r p (Err e) → ⊥
placed_not path q r p t e same free x y = let no : Ok t ≡ Err e = one_result path q r p (Ok t) (Err e) same (λ z. cc) (unplace e free) x y in cc

one_put_made : (path : List ℕ) (q r p : Plain) (m n : Made) (text : List ℕ) → q ≡ r → Places path q p (Ok m.tree) → Places path r p (Ok n.tree) → Drops text q m.dropped → Drops text r n.dropped → m ≡ n
one_put_made path q r p m n text same x y d e =
    let is = one_result path q r p (Ok m.tree) (Ok n.tree) same (λ z. cc) (λ z. cc) x y in
    let tree : m.tree ≡ n.tree = cc in
    let P : Plain → Type 0 = λ t. Drops text t n.dropped in
    same-made m n tree (one_dropped text q m.dropped n.dropped d (subst P (sym same) e))

one_put_refused : (path : List ℕ) (q r p : Plain) (e f : EditError) → q ≡ r → e ≢ edit.NoMemory → f ≢ edit.NoMemory → Places path q p (Err e) → Places path r p (Err f) → e ≡ f
one_put_refused path q r p e f same left right x y =
    let is = one_result path q r p (Err e) (Err f) same (unplace e left) (unplace f right) x y in
    cc

one_filling : OneNumber → (path text : List ℕ) (p : Plain) (a b : Result Made Refusal) → Filled path text p a → Filled path text p b → a ≡ b
one_filling one path text p a b (No_place x_none x_is) (No_place y_none y_is) = x_is ∙ sym y_is
one_filling one path text p a b (No_place x_none x_is) (Faulty_text y_f y_some y_fault y_is) = absurd (no_node (at path p) x_none y_some)
one_filling one path text p a b (No_place x_none x_is) (At_list y_list y_is) = absurd (no_node (at path p) x_none y_list.place)
one_filling one path text p a b (No_place x_none x_is) (Misfit_text y_k y_s y_sort y_misfit y_is) = absurd (no_sort path p y_s x_none y_sort)
one_filling one path text p a b (No_place x_none x_is) (Put_so y_s y_q y_m y_sort y_written y_places y_drops y_is) = absurd (no_sort path p y_s x_none y_sort)
one_filling one path text p a b (No_place x_none x_is) (Not_put y_s y_q y_e y_sort y_written y_places y_free y_is) = absurd (no_sort path p y_s x_none y_sort)
one_filling one path text p a b (Faulty_text x_f x_some x_fault x_is) (No_place y_none y_is) = absurd (no_node (at path p) y_none x_some)
one_filling one path text p a b (Faulty_text x_f x_some x_fault x_is) (Faulty_text y_f y_some y_fault y_is) = x_is ∙ ap (λ z. unedited (refusal.Lex z)) (one_fault text x_f y_f x_fault y_fault) ∙ sym y_is
one_filling one path text p a b (Faulty_text x_f x_some x_fault x_is) (At_list y_list y_is) = absurd (list_faultless path text p x_f y_list x_fault)
one_filling one path text p a b (Faulty_text x_f x_some x_fault x_is) (Misfit_text y_k y_s y_sort y_misfit y_is) = absurd (misfit_is_faultless (class_of y_s) text y_k x_f y_misfit x_fault)
one_filling one path text p a b (Faulty_text x_f x_some x_fault x_is) (Put_so y_s y_q y_m y_sort y_written y_places y_drops y_is) = absurd (written_is_faultless (class_of y_s) text y_q x_f y_written x_fault)
one_filling one path text p a b (Faulty_text x_f x_some x_fault x_is) (Not_put y_s y_q y_e y_sort y_written y_places y_free y_is) = absurd (written_is_faultless (class_of y_s) text y_q x_f y_written x_fault)
one_filling one path text p a b (At_list x_list x_is) (No_place y_none y_is) = absurd (no_node (at path p) y_none x_list.place)
one_filling one path text p a b (At_list x_list x_is) (Faulty_text y_f y_some y_fault y_is) = absurd (list_faultless path text p y_f x_list y_fault)
one_filling one path text p a b (At_list x_list x_is) (At_list y_list y_is) = x_is ∙ sym y_is
one_filling one path text p a b (At_list x_list x_is) (Misfit_text y_k y_s y_sort y_misfit y_is) = absurd (unsorted (sort_at path p) y_s x_list.list y_sort)
one_filling one path text p a b (At_list x_list x_is) (Put_so y_s y_q y_m y_sort y_written y_places y_drops y_is) = absurd (unsorted (sort_at path p) y_s x_list.list y_sort)
one_filling one path text p a b (At_list x_list x_is) (Not_put y_s y_q y_e y_sort y_written y_places y_free y_is) = absurd (unsorted (sort_at path p) y_s x_list.list y_sort)
one_filling one path text p a b (Misfit_text x_k x_s x_sort x_misfit x_is) (No_place y_none y_is) = absurd (no_sort path p x_s y_none x_sort)
one_filling one path text p a b (Misfit_text x_k x_s x_sort x_misfit x_is) (Faulty_text y_f y_some y_fault y_is) = absurd (misfit_is_faultless (class_of x_s) text x_k y_f x_misfit y_fault)
one_filling one path text p a b (Misfit_text x_k x_s x_sort x_misfit x_is) (At_list y_list y_is) = absurd (unsorted (sort_at path p) x_s y_list.list x_sort)
one_filling one path text p a b (Misfit_text x_k x_s x_sort x_misfit x_is) (Misfit_text y_k y_s y_sort y_misfit y_is) =
    let M : Sort → Type 0 = λ e. IsMisfit (class_of e) text y_k in
    let misfit = subst M (sym (one_sort (sort_at path p) x_s y_s x_sort y_sort)) y_misfit in
    x_is ∙ ap (λ z. unedited (refusal.NotFit z)) (one_misfit one (class_of x_s) text x_k y_k x_misfit misfit) ∙ sym y_is
one_filling one path text p a b (Misfit_text x_k x_s x_sort x_misfit x_is) (Put_so y_s y_q y_m y_sort y_written y_places y_drops y_is) = absurd (fits_not (sort_at path p) text x_k x_s y_s y_q x_sort y_sort x_misfit y_written)
one_filling one path text p a b (Misfit_text x_k x_s x_sort x_misfit x_is) (Not_put y_s y_q y_e y_sort y_written y_places y_free y_is) = absurd (fits_not (sort_at path p) text x_k x_s y_s y_q x_sort y_sort x_misfit y_written)
one_filling one path text p a b (Put_so x_s x_q x_m x_sort x_written x_places x_drops x_is) (No_place y_none y_is) = absurd (no_sort path p x_s y_none x_sort)
one_filling one path text p a b (Put_so x_s x_q x_m x_sort x_written x_places x_drops x_is) (Faulty_text y_f y_some y_fault y_is) = absurd (written_is_faultless (class_of x_s) text x_q y_f x_written y_fault)
one_filling one path text p a b (Put_so x_s x_q x_m x_sort x_written x_places x_drops x_is) (At_list y_list y_is) = absurd (unsorted (sort_at path p) x_s y_list.list x_sort)
one_filling one path text p a b (Put_so x_s x_q x_m x_sort x_written x_places x_drops x_is) (Misfit_text y_k y_s y_sort y_misfit y_is) = absurd (fits_not (sort_at path p) text y_k y_s x_s x_q y_sort x_sort y_misfit x_written)
one_filling one path text p a b (Put_so x_s x_q x_m x_sort x_written x_places x_drops x_is) (Put_so y_s y_q y_m y_sort y_written y_places y_drops y_is) =
    x_is ∙ ap edits (one_put_made path x_q y_q p x_m y_m text (one_piece (sort_at path p) text x_s y_s x_q y_q x_sort y_sort x_written y_written) x_places y_places x_drops y_drops) ∙ sym y_is
one_filling one path text p a b (Put_so x_s x_q x_m x_sort x_written x_places x_drops x_is) (Not_put y_s y_q y_e y_sort y_written y_places y_free y_is) = absurd (placed_not path x_q y_q p x_m.tree y_e (one_piece (sort_at path p) text x_s y_s x_q y_q x_sort y_sort x_written y_written) y_free x_places y_places)
one_filling one path text p a b (Not_put x_s x_q x_e x_sort x_written x_places x_free x_is) (No_place y_none y_is) = absurd (no_sort path p x_s y_none x_sort)
one_filling one path text p a b (Not_put x_s x_q x_e x_sort x_written x_places x_free x_is) (Faulty_text y_f y_some y_fault y_is) = absurd (written_is_faultless (class_of x_s) text x_q y_f x_written y_fault)
one_filling one path text p a b (Not_put x_s x_q x_e x_sort x_written x_places x_free x_is) (At_list y_list y_is) = absurd (unsorted (sort_at path p) x_s y_list.list x_sort)
one_filling one path text p a b (Not_put x_s x_q x_e x_sort x_written x_places x_free x_is) (Misfit_text y_k y_s y_sort y_misfit y_is) = absurd (fits_not (sort_at path p) text y_k y_s x_s x_q y_sort x_sort y_misfit x_written)
one_filling one path text p a b (Not_put x_s x_q x_e x_sort x_written x_places x_free x_is) (Put_so y_s y_q y_m y_sort y_written y_places y_drops y_is) = absurd (placed_not path y_q x_q p y_m.tree x_e (one_piece (sort_at path p) text y_s x_s y_q x_q y_sort x_sort y_written x_written) x_free y_places x_places)
one_filling one path text p a b (Not_put x_s x_q x_e x_sort x_written x_places x_free x_is) (Not_put y_s y_q y_e y_sort y_written y_places y_free y_is) =
    x_is ∙ ap (λ z. unedited (refused z)) (one_put_refused path x_q y_q p x_e y_e (one_piece (sort_at path p) text x_s y_s x_q y_q x_sort y_sort x_written y_written) x_free y_free x_places y_places) ∙ sym y_is

pub one_fill : OneNumber → (path text : List ℕ) (p : Plain) (a b : Result Made Refusal) → a ≢ Err refusal.NoMemory → b ≢ Err refusal.NoMemory → Fills path text p a → Fills path text p b → a ≡ b
one_fill one path text p a b left right x y = one_filling one path text p a b (fill-way path text p a left x) (fill-way path text p b right y)
