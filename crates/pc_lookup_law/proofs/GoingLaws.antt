-- Along the routines of a block: what a Local, the forward headings and the places know at each of them.
use Rattle.std.proofs.Common.{Bool, List, None, Option, Some, [], ap, append_assoc, arith, bytes_eq, eq-eqb, false, if◌then◌else◌, length, ne_eqb, not, refl, subst, suc, sym, true, ℕ, ◌&&◌, ◌++◌, ◌+◌, ◌<◌, ◌==◌, ◌∙◌, ◌∷◌, ◌≡◌}
use Rattle.std.specs.Prelude.{slice_get}
use Rattle.pc_lookup_law.proofs.ClassAtLaws.{Rooted, rooted-next}
use Rattle.pc_lookup_law.proofs.ParameterLaws.{Parameters}
use Rattle.pc_rule_laws.specs.DeclaredNames.{Steps, steps}
use Rattle.pc_rule_laws.specs.Forwards.{GivenBy, Waiting, backwards, backwards-more, backwards-without, waiting-ended, waiting-forward, waiting-next, waiting-none}
use Rattle.pc_rule_laws.specs.Roles.{DeclaresRoutine, behind_by, role}
use Rattle.pc_rule_laws.specs.RoutineLaw.{behind_routine}
use Rattle.pc_rule_laws.specs.RoutineNames.{define_all-ahead, define_all-waiting}
use Rattle.pc_rules.specs.Attributes.{Attributes, first}
use Rattle.pc_rules.specs.Declarations.{head_or, heading_here, rest_of}
use Rattle.pc_rules.specs.Decorated.{decorate}
use Rattle.pc_rules.specs.Meanings.{Class, FunctionName, Local, Meaning, Outside, ProcedureName}
use Rattle.pc_rules.specs.OwnBlock.{own}
use Rattle.pc_rules.specs.Places.{beside}
use Rattle.pc_rules.specs.RoutineList.{Forwarded, forwarded_by, forwarded_for, key_of, without_forwarded}
use Rattle.pc_rules.specs.Routines.{Routine, parameters_of}
use Rattle.pc_scope.specs.Headings.{Heading, heading_of, headings_in, is_routine_kind, same_side, without_pairs}
use Rattle.pc_scope.specs.Waiting.{waiting_for, waits}
use Rattle.pc_syntax.specs.Plain.{Cons, Forest, Nil, Plain, trees_of}
use Rattle.pc_syntax.specs.declared.kind.Kind.{Kind}
use Rattle.pc_syntax.specs.declared.sort.Sort.{Sort}
use Rattle.pc_syntax.specs.declared.kind.Kind.TheVariants as kind

-- where a node of a list of routines leaves its successor
abbrev pub next_of : Outside → Local → Kind → List ℕ → List (List ℕ) → Forest → Local
next_of out l k w ns ks = beside l k (first (decorate out l (own (Cons k w ns ks Nil))))

-- What is known at a routine of a list, where `f` are the routines `rs` from there on and `gs` the headings of those before: `l` is its Local, `fs` are
-- the forward headings, `start` is where the list begins, and `p` its place.
pub record Going (t : Plain) (out : Outside) (p : List ℕ) (rs : Forest) (c : Option Class) (start l : Local) (fs : List Forwarded) (gs : List Heading) (f : Forest) : Type 0 where
  pub kid : l.kid ≡ suc (length gs)
  pub ahead : l.ahead ≡ headings_in f
  pub waiting : l.waiting ≡ backwards fs
  pub split : headings_in rs ≡ gs ++ headings_in f
  pub given : Waiting (Parameters t p rs) fs (λ h. waiting_for h 1 None gs)
  pub rest : (j : ℕ) → slice_get (trees_of rs) (length gs + j) ≡ slice_get (trees_of f) j
  pub behind : (j : ℕ) → length gs < j → behind_routine out start 1 (own rs) j ≡ behind_routine out l (suc (length gs)) (own f) j
  pub root : Rooted t p c (suc (length gs)) f

none-before : (j : ℕ) → 0 + j ≡ j
none-before j = omega arith

-- at the first of them
pub going-first : (t : Plain) (out : Outside) (p : List ℕ) (rs : Forest) (c : Option Class) (start : Local) → start.kid ≡ 1 → start.ahead ≡ headings_in rs → start.waiting ≡ [] → Rooted t p c 1 rs →
    Going t out p rs c start start [] [] rs
going-first t out p rs c start kid ahead waiting root = record {
  kid = kid;
  ahead = ahead;
  waiting = waiting;
  split = refl;
  given = waiting-none (Parameters t p rs);
  rest = λ j. ap (slice_get (trees_of rs)) (none-before j);
  behind = λ j less. refl;
  root = root;
}

-- ---- one on

length-more : (gs : List Heading) (g : Heading) → length (gs ++ g ∷ []) ≡ suc (length gs)
length-more [] g = refl
length-more (h ∷ gs) g = ap suc (length-more gs g)

one-more : (n : ℕ) → 1 + n ≡ suc n
one-more n = omega arith

more-in : (n j : ℕ) → suc n + j ≡ n + suc j
more-in n j = omega arith

behind-next : (out : Outside) (l : Local) (i : ℕ) (k : Kind) (w : List ℕ) (ns : List (List ℕ)) (ks ts : Forest) (j : ℕ) → i < j →
    behind_routine out l i (own (Cons k w ns ks ts)) j ≡ behind_routine out (next_of out l k w ns ks) (suc i) (own ts) j
unfolding own behind_routine
behind-next out l i k w ns ks ts j less =
    ap (λ t. if t then Some (next_of out l k w ns ks) else behind_routine out (next_of out l k w ns ks) (suc i) (own ts) j) (ne_eqb i j (λ e. absurd (omega (arith, less, e))))

pub behind-here : (out : Outside) (l : Local) (i : ℕ) (k : Kind) (w : List ℕ) (ns : List (List ℕ)) (ks ts : Forest) →
    behind_routine out l i (own (Cons k w ns ks ts)) i ≡ Some (next_of out l k w ns ks)
unfolding own behind_routine
behind-here out l i k w ns ks ts = ap (λ t. if t then Some (next_of out l k w ns ks) else behind_routine out (next_of out l k w ns ks) (suc i) (own ts) i) (eq-eqb i i refl)

-- the waiting headings and the forward ones behind a node, however it is
going-step : (t : Plain) (out : Outside) (p : List ℕ) (rs : Forest) (c : Option Class) (start l : Local) (fs hs : List Forwarded) (gs : List Heading)
    (k : Kind) (w : List ℕ) (ns : List (List ℕ)) (ks ts : Forest) → Going t out p rs c start l fs gs (Cons k w ns ks ts) →
    (next_of out l k w ns ks).ahead ≡ rest_of l.ahead → (next_of out l k w ns ks).waiting ≡ backwards hs →
    Waiting (Parameters t p rs) hs (λ h. waits h (heading_of k ks) (suc (length gs)) (waiting_for h 1 None gs)) →
    Going t out p rs c start (next_of out l k w ns ks) hs (gs ++ heading_of k ks ∷ []) ts
going-step t out p rs c start l fs hs gs k w ns ks ts h ahead waiting given =
    let g : Heading = heading_of k ks in
    let more : length (gs ++ g ∷ []) ≡ suc (length gs) = length-more gs g in
    record {
      kid = ap suc h.kid ∙ ap suc (sym more);
      ahead = ahead ∙ ap rest_of h.ahead;
      waiting = waiting;
      split = h.split ∙ sym (append_assoc gs (g ∷ []) (headings_in ts));
      given = λ x. subst (GivenBy (Parameters t p rs) (forwarded_for x hs)) (sym (waiting-next x 1 None gs g ∙ ap (λ n. waits x g n (waiting_for x 1 None gs)) (one-more (length gs)))) (given x);
      rest = λ j. ap (λ n. slice_get (trees_of rs) (n + j)) more ∙ ap (slice_get (trees_of rs)) (more-in (length gs) j) ∙ h.rest (suc j);
      behind = λ j less.
          let far : suc (length gs) < j = subst (λ n. n < j) more less in
          h.behind j (omega (arith, far)) ∙ behind-next out l (suc (length gs)) k w ns ks ts j far
          ∙ ap (λ n. behind_routine out (next_of out l k w ns ks) (suc n) (own ts) j) (sym more);
      root = subst (λ n. Rooted t p c (suc n) ts) (sym more) (rooted-next t p c (suc (length gs)) k w ns ks ts h.root);
    }

-- behind a routine
routine-ahead : (c : Class) (l : Local) (ds : List (List ℕ × Meaning)) → (behind_by (DeclaresRoutine c) l ds).ahead ≡ rest_of l.ahead
routine-ahead c l ds = ap rest_of (define_all-ahead l ds)

routine-waiting : (c : Class) (l : Local) (ds : List (List ℕ × Meaning)) →
    (behind_by (DeclaresRoutine c) l ds).waiting ≡ (if (heading_here l).is_forward then heading_here l ∷ l.waiting else without_pairs (heading_here l) l.waiting)
routine-waiting c l ds =
    λ i. if (head_or (define_all-ahead l ds i)).is_forward then head_or (define_all-ahead l ds i) ∷ define_all-waiting l ds i else without_pairs (head_or (define_all-ahead l ds i)) (define_all-waiting l ds i)

-- the forward headings behind it, by its own heading
forwarded-backwards : (g : Heading) (x : Forwarded) (fs : List Forwarded) → x.heading ≡ g → (if g.is_forward then g ∷ backwards fs else without_pairs g (backwards fs))
    ≡ backwards (if g.is_forward then fs ++ x ∷ [] else without_forwarded g fs)
forwarded-backwards g x fs same = by g.is_forward where
  by : (b : Bool) → (if b then g ∷ backwards fs else without_pairs g (backwards fs)) ≡ backwards (if b then fs ++ x ∷ [] else without_forwarded g fs)
  by true = ap (λ y. y ∷ backwards fs) (sym same) ∙ sym (backwards-more fs x)
  by false = backwards-without g fs

forwarded-given : (R : List (List ℕ × Meaning) → ℕ → Type 0) (g : Heading) (x : Forwarded) (fs : List Forwarded) (o : Heading → Option ℕ) (n : ℕ) → x.heading ≡ g → (g.is_forward ≡ true → R x.parameters n) → Waiting R fs o →
    Waiting R (if g.is_forward then fs ++ x ∷ [] else without_forwarded g fs) (λ h. waits h g n (o h))
forwarded-given R g x fs o n same r w = by g.is_forward refl where
  by : (b : Bool) → g.is_forward ≡ b → Waiting R (if b then fs ++ x ∷ [] else without_forwarded g fs) (λ h. waits h g n (o h))
  by true e =
      subst (λ (y : Heading). Waiting R (fs ++ x ∷ []) (λ h. waits h y n (o h))) same
      (waiting-forward R fs o x n (ap (λ (y : Heading). y.is_forward) same ∙ e) (r e) w)
  by false e = waiting-ended R fs o g n e w

routine-class : (k : Kind) → is_routine_kind k ≡ true → (c : Class) × (role k ≡ DeclaresRoutine c)
routine-class kind.Procedure e = (ProcedureName, refl)
routine-class kind.Function e = (FunctionName, refl)
routine-class kind.Funbody e = (FunctionName, refl)
routine-class _ e = cc e

pub going-routine : (t : Plain) (out : Outside) (p : List ℕ) (rs : Forest) (c : Option Class) (start l : Local) (fs : List Forwarded) (gs : List Heading)
    (k : Kind) (w : List ℕ) (ns : List (List ℕ)) (ks ts : Forest) (r : Routine) → is_routine_kind k ≡ true → Going t out p rs c start l fs gs (Cons k w ns ks ts) →
    ((heading_of k ks).is_forward ≡ true → Parameters t p rs (parameters_of r) (suc (length gs))) →
    Going t out p rs c start (next_of out l k w ns ks) (forwarded_by l r fs) (gs ++ heading_of k ks ∷ []) ts
going-routine t out p rs c start l fs gs k w ns ks ts r is h given =
    let g : Heading = heading_of k ks in
    let here : heading_here l ≡ g = ap head_or h.ahead in
    let a : Attributes = first (decorate out l (own (Cons k w ns ks Nil))) in
    let d = routine-class k is in
    let s : Steps (role k) l a.defines (beside l k a) = steps l k a in
    let x : Forwarded = record { heading = heading_here l; key = key_of r.owner; parameters = parameters_of r } in
    going-step t out p rs c start l fs (forwarded_by l r fs) gs k w ns ks ts h
    (s.ahead ∙ ap (λ z. (behind_by z l a.defines).ahead) d.1 ∙ routine-ahead d.0 l a.defines)
    (s.waiting ∙ ap (λ z. (behind_by z l a.defines).waiting) d.1 ∙ routine-waiting d.0 l a.defines
    ∙ ap (λ ws. if (heading_here l).is_forward then heading_here l ∷ ws else without_pairs (heading_here l) ws) h.waiting
    ∙ forwarded-backwards (heading_here l) x fs refl)
    (subst (λ (y : Heading). Waiting (Parameters t p rs) (forwarded_by l r fs) (λ z. waits z y (suc (length gs)) (waiting_for z 1 None gs))) here
    (forwarded-given (Parameters t p rs) (heading_here l) x fs (λ z. waiting_for z 1 None gs) (suc (length gs)) refl (λ e. given (ap (λ (y : Heading). y.is_forward) (sym here) ∙ e)) h.given))

nameless : (n : List ℕ) (b : Bool) → ((not (length n == 0) && bytes_eq n []) && b) ≡ false
nameless [] b = refl
nameless (x ∷ n) b = by (not (length (x ∷ n) == 0)) where
  by : (a : Bool) → ((a && false) && b) ≡ false
  by true = refl
  by false = refl

-- behind a hole
pub going-hole : (t : Plain) (out : Outside) (p : List ℕ) (rs : Forest) (c : Option Class) (start l : Local) (fs : List Forwarded) (gs : List Heading)
    (z : Sort) (w : List ℕ) (ns : List (List ℕ)) (ts : Forest) → Going t out p rs c start l fs gs (Cons (kind.Hole z) w ns Nil ts) →
    Going t out p rs c start (next_of out l (kind.Hole z) w ns Nil) fs (gs ++ heading_of (kind.Hole z) Nil ∷ []) ts
going-hole t out p rs c start l fs gs z w ns ts h =
    going-step t out p rs c start l fs fs gs (kind.Hole z) w ns Nil ts h refl h.waiting
    (λ x. subst (GivenBy (Parameters t p rs) (forwarded_for x fs)) (sym (unpaired x)) (h.given x)) where
      unpaired : (x : Heading) → waits x (heading_of (kind.Hole z) Nil) (suc (length gs)) (waiting_for x 1 None gs) ≡ waiting_for x 1 None gs
      unpaired x = ap (λ b. if b then None else waiting_for x 1 None gs) (nameless x.name (same_side x.is_function false))
