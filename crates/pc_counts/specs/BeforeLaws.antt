-- How often the names of definitions stood before, one definition after the other: laws.
use Rattle.std.proofs.Common.{◌≡◌, ◌+◌, ℕ, List, [], ◌∷◌, ◌++◌, length, ap, sym, ◌∙◌, subst, arith, length-append}
use Rattle.std.proofs.lemmas.List.{map-append}
use Rattle.pc_syntax.specs.Plain.{Plain}
use Rattle.pc_syntax.specs.declared.kind.Kind.{Kind}
use Rattle.pc_rules.specs.Meanings.{Class, Local, Outside}
use Rattle.pc_rules.specs.OwnBlock.{declared_by}
use Rattle.pc_rules.specs.Places.{times_in}
use Rattle.pc_environment.specs.Decorating.{place_behind, place_after}
use Rattle.pc_definitions.specs.Numbered.{AreBefore, defined_name}
use Rattle.pc_forms.specs.FormClasses.{Every}
use Rattle.pc_openings.specs.Declaring.{all_declared, declared_at, declared_below}
use Rattle.pc_openings.specs.DeclaringLaws.{all_declared-end}
use Rattle.pc_places.specs.Places.{Keeps}
use Rattle.pc_places.specs.declared.tables.Tables.{Tables}
use Rattle.pc_counts.specs.Counting.{AreCounted, all_names}
use Rattle.pc_counts.specs.Counted.{Counted, TellsBefore}
use Rattle.pc_counts.specs.CountedLaws.{Counted-kept, Counted-then}
use Rattle.pc_counts.specs.PassedLaws.{IsPart, passed-after}

-- one more definition
pub AreBefore-end : (k : Kind) (out : Outside) (l : Local) (ts : List Plain) (t : Plain) (bs : List ℕ) (b : ℕ) → length bs ≡ length ts → AreBefore k out l ts bs →
    (t.kind ≡ k → times_in (place_after out l ts).passed (defined_name k t.kids) ≡ b) → AreBefore k out l (ts ++ t ∷ []) (bs ++ b ∷ [])
AreBefore-end k out l [] t [] b many h here = ((λ e among. here e), tt)
AreBefore-end k out l [] t (c ∷ bs) b many h here = absurd (omega (arith, many))
AreBefore-end k out l (u ∷ ts) t [] b many h here = absurd (omega (arith, many))
AreBefore-end k out l (u ∷ ts) t (c ∷ bs) b many h here = (h.0, AreBefore-end k out (place_behind out l u) ts t bs b (omega (arith, many)) h.1 here)

-- the next of some definitions, which were counted
pub TellsBefore-end : (ts : List Plain) (t : Plain) (c0 c1 : List (ℕ × ℕ)) (t0 t1 : Tables) (bs : List ℕ) (b : ℕ) → Every IsPart ts → TellsBefore ts c0 t0.names.texts bs →
    Counted (all_names (all_declared ts)) c0 c1 t0 t1 → ((passed : List (List ℕ)) → AreCounted c1 t1.names.texts passed → times_in passed (defined_name t.kind t.kids) ≡ b) →
    TellsBefore (ts ++ t ∷ []) c0 t0.names.texts (bs ++ b ∷ [])
TellsBefore-end ts t c0 c1 t0 t1 bs b parts h counted times = record {
  many = length-append bs (b ∷ []) ∙ ap (λ (n : ℕ). n + 1) h.many ∙ sym (length-append ts (t ∷ []));
  before = λ k out l a.
      let here = subst (AreCounted c1 t1.names.texts) (sym (passed-after out l ts parts)) (counted.counts l.passed a) in
      AreBefore-end k out l ts t bs b h.many (h.before k out l a)
      (λ e. subst (λ (j : Kind). times_in (place_after out l ts).passed (defined_name j t.kids) ≡ b) e (times (place_after out l ts).passed here));
}

pub TellsBefore-none : (counts : List (ℕ × ℕ)) (names : List (List ℕ)) (bs : List ℕ) → bs ≡ [] → TellsBefore [] counts names bs
TellsBefore-none counts names bs none = record { many = ap length none; before = λ k out l a. tt }

-- what is declared by the next of some nodes is counted, by itself and below it
pub Counted-end : (ts : List Plain) (t : Plain) (c0 c1 c2 c3 : List (ℕ × ℕ)) (t0 t1 t2 t3 t4 : Tables) → Counted (all_names (all_declared ts)) c0 c1 t0 t1 → Keeps t1 t2 →
    Counted (all_names (declared_by t.kind t.kids)) c1 c2 t2 t3 → Counted (all_names (declared_below t)) c2 c3 t3 t4 → Counted (all_names (all_declared (ts ++ t ∷ []))) c0 c3 t0 t4
Counted-end ts t c0 c1 c2 c3 t0 t1 t2 t3 t4 h keeps own below =
    let name : List ℕ × Class → List ℕ = λ d. d.0 in
    let before : List (List ℕ × Class) = all_declared ts in
    let own_ds : List (List ℕ × Class) = declared_by t.kind t.kids in
    let below_ds : List (List ℕ × Class) = declared_below t in
    let here = Counted-then (all_names own_ds) (all_names below_ds) c1 c2 c3 t2 t3 t4 own below in
    let kept = Counted-then [] (all_names own_ds ++ all_names below_ds) c1 c1 c3 t1 t2 t4 (Counted-kept c1 t1 t2 keeps) here in
    let all = Counted-then (all_names before) (all_names own_ds ++ all_names below_ds) c0 c1 c3 t0 t1 t4 h kept in
    let is : all_names (all_declared (ts ++ t ∷ [])) ≡ all_names before ++ (all_names own_ds ++ all_names below_ds) =
    ap all_names (all_declared-end ts t) ∙ map-append name before (declared_at t) ∙ ap (λ (ns : List (List ℕ)). all_names before ++ ns) (map-append name own_ds below_ds) in
    subst (λ (ns : List (List ℕ)). Counted ns c0 c3 t0 t4) (sym is) all
