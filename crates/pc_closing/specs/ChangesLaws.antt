-- How the marks and those that lead to others change, whatever types lead to: lemmas.
use Rattle.std.proofs.Common.{◌≡◌, ℕ, ◌+◌, ◌-◌, Bool, true, false, List, [], ◌∷◌, ◌++◌, Option, Some, None, length, slice_get, sym, ◌∙◌, ap, subst}
use Rattle.std.proofs.lemmas.List.{length-replicate}
use Rattle.pc_types.specs.declared.form.TypeId.{TypeId}
use Rattle.pc_closing.specs.Search.{Marks, marks_after, users_after, marks_needing, users_needing, marks_if, users_if, marks_all, users_all, marks_to, users_to, AreCounted, AreMarked}
use Rattle.pc_closing.specs.MarksLaws.{moves-self, moves-through, enter-moves, user-moves}
use Rattle.pc_closing.specs.Searched.{Changes}
use Rattle.pc_closing.specs.EndLaws.{fresh, fresh-marked}

-- nothing is asked of a type that is marked
abbrev Any : ℕ → Type 0
Any i = Unit {0}

pub changes-self : (us : List (List ℕ)) (m : Marks) → Changes us us m m
changes-self us m = moves-self Any us m

pub changes-through : (us vs ws : List (List ℕ)) (m n o : Marks) → Changes us vs m n → Changes vs ws n o → Changes us ws m o
changes-through us vs ws m n o f g = moves-through Any us vs ws m n o f g

after-changes : (k : Option Bool) (part i : ℕ) (us : List (List ℕ)) (m : Marks) → Changes us (users_after k part i us) m (marks_after k i m)
after-changes None part i us m = user-moves Any us part i m (λ h. tt)
after-changes (Some true) part i us m = changes-self us m
after-changes (Some false) part i us m = enter-moves Any us i m tt

needing-changes : (flags : List Bool) (part i : ℕ) (us : List (List ℕ)) (m : Marks) → Changes us (users_needing flags part i us) m (marks_needing flags part i m)
needing-changes flags part i us m = after-changes (slice_get flags part) (part - length flags) i us m

if-changes : (flags : List Bool) (part : Option TypeId) (i : ℕ) (us : List (List ℕ)) (m : Marks) → Changes us (users_if flags part i us) m (marks_if flags part i m)
if-changes flags None i us m = changes-self us m
if-changes flags (Some part) i us m = needing-changes flags part.0 i us m

all-changes : (flags : List Bool) (fields : List (List ℕ × TypeId)) (i : ℕ) (us : List (List ℕ)) (m : Marks) → Changes us (users_all flags fields i us) m (marks_all flags fields i m)
all-changes flags [] i us m = changes-self us m
all-changes flags (f ∷ fs) i us m =
    let vs = users_needing flags f.1.0 i us in
    let n = marks_needing flags f.1.0 i m in
    changes-through us vs (users_all flags fs i vs) m n (marks_all flags fs i n) (needing-changes flags f.1.0 i us m) (all-changes flags fs i vs n)

to-changes : (flags : List Bool) (target : Option (Option TypeId)) (i : ℕ) (us : List (List ℕ)) (m : Marks) → Changes us (users_to flags target i us) m (marks_to flags target i m)
to-changes flags None i us m = changes-self us m
to-changes flags (Some None) i us m = enter-moves Any us i m tt
to-changes flags (Some (Some part)) i us m = needing-changes flags part.0 i us m

-- what the calls that note a new type say together
pub changes-by : (flags : List Bool) (i : ℕ) (part : Option TypeId) (fields : List (List ℕ × TypeId)) (to : Option (Option TypeId)) (us u1 u2 u3 : List (List ℕ)) (m m1 m2 m3 : Marks) →
    u1 ≡ users_if flags part i us → m1 ≡ marks_if flags part i m → u2 ≡ users_all flags fields i u1 → m2 ≡ marks_all flags fields i m1 → u3 ≡ users_to flags to i u2 →
    m3 ≡ marks_to flags to i m2 → Changes us u3 m m3
changes-by flags i part fields to us u1 u2 u3 m m1 m2 m3 ue me uf mf ut mt =
    let first : Changes us u1 m m1 = subst (λ (v : List (List ℕ)). Changes us v m m1) (sym ue)
    (subst (λ (n : Marks). Changes us (users_if flags part i us) m n) (sym me) (if-changes flags part i us m)) in
    let second : Changes u1 u2 m1 m2 = subst (λ (v : List (List ℕ)). Changes u1 v m1 m2) (sym uf)
    (subst (λ (n : Marks). Changes u1 (users_all flags fields i u1) m1 n) (sym mf) (all-changes flags fields i u1 m1)) in
    let third : Changes u2 u3 m2 m3 = subst (λ (v : List (List ℕ)). Changes u2 v m2 m3) (sym ut)
    (subst (λ (n : Marks). Changes u2 (users_to flags to i u2) m2 n) (sym mt) (to-changes flags to i u2 m2)) in
    changes-through us u2 u3 m m2 m3 (changes-through us u1 u2 m m1 m2 first second) third

-- what was noted counts each type that was found once
pub changed-counts : (count : ℕ) (us vs : List (List ℕ)) (m n : Marks) → m ≡ fresh count → Changes us vs m n → AreCounted n
changed-counts count us vs m n e g = (g.marked (subst (AreMarked Any) (sym e) (fresh-marked Any count))).count

pub changed-length : (count : ℕ) (us vs : List (List ℕ)) (m n : Marks) → m ≡ fresh count → Changes us vs m n → length n.whole ≡ count
changed-length count us vs m n e g = g.marks ∙ ap (λ (p : Marks). length p.whole) e ∙ length-replicate count true
