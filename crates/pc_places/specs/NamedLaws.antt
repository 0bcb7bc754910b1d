-- What is found at a used name, and at a hole in its place: lemmas.
use Rattle.std.specs.Prelude.{◌≡◌, ℕ, Bool, true, false, List, if◌then◌else◌}
use Rattle.std.proofs.Common.{refl, ap, sym, ◌∙◌, subst}
use Rattle.pc_syntax.specs.Plain.{Plain}
use Rattle.pc_syntax.specs.Words.{lowered}
use Rattle.pc_syntax.specs.Classes.{is_name}
use Rattle.pc_syntax.specs.declared.kind.Kind.{Kind}
use Rattle.pc_syntax.specs.declared.kind.Kind.TheVariants as kind
use Rattle.pc_syntax.specs.declared.sort.Sort.{Sort}
use Rattle.pc_rules.specs.Attributes.{Attributes}
use Rattle.pc_rules.specs.Decorated.{Seen, unseen, seen, rule, with_kind, name_rule, hole_rule}
use Rattle.pc_rules.specs.Meanings.{Local, Outside, find}
use Rattle.pc_environment.specs.Decorating.{attributes_at, below_at}
use Rattle.pc_environment.specs.DecoratingLaws.{at-node}
use Rattle.pc_facts.specs.Known.{Known}
use Rattle.pc_facts.specs.Shows.{ShowsFound, ShowsName}
use Rattle.pc_facts.specs.declared.sighting.Named.{Named}
use Rattle.pc_facts.specs.declared.sighting.Sighting.TheVariants as sighting
use Rattle.pc_places.specs.Scenes.{unsigned_found, unsigned_at}

-- what a used name means
abbrev used_here : Outside → Local → List ℕ → Seen
used_here out l n = record { found = find out l n; changed = out.touched n }

used-at : (out : Outside) (l : Local) (t : Plain) → t.kind ≡ kind.Name → l.using ≡ true → attributes_at out l t ≡ with_kind kind.Name t.word (name_rule (used_here out l (lowered t.word)))
unfolding rule
used-at out l t e u =
    at-node out l t
    ∙ (λ i. rule l (e i) t.word (seen out l (e i) t.word) (below_at out l t))
    ∙ ap (λ (b : Bool). with_kind kind.Name t.word (name_rule (if b then used_here out l (lowered t.word) else unseen))) u

hole-at : (out : Outside) (l : Local) (t : Plain) (s : Sort) → t.kind ≡ kind.Hole s → attributes_at out l t ≡ with_kind (kind.Hole s) t.word hole_rule
unfolding rule
hole-at out l t s e = at-node out l t ∙ (λ i. rule l (e i) t.word (seen out l (e i) t.word) (below_at out l t))

-- in the place of a name stands a name or a hole
name-or-hole : (k : Kind) → (k ≡ kind.Name → ⊥) → is_name k ≡ true → (s : Sort) × (k ≡ kind.Hole s)
name-or-hole kind.Name isnt is = absurd (isnt refl)
name-or-hole (kind.Hole s) isnt is = (s, refl)
name-or-hole k isnt is = cc

pub shows-used : (k : Known) (m : Named) (out : Outside) (l : Local) (t : Plain) → t.kind ≡ kind.Name → l.using ≡ true → m.hole ≡ false →
    ShowsFound k (lowered t.word) m.sighting (unsigned_found (find out l (lowered t.word))) → ShowsName k m (unsigned_at (attributes_at out l t))
shows-used k m out l t e u h found =
    subst (λ (a : Attributes). ShowsName k m (unsigned_at a)) (sym (used-at out l t e u)) (record { hole = h; is_hole = refl; found = found })

pub shows-unused : (k : Known) (m : Named) (out : Outside) (l : Local) (t : Plain) → (t.kind ≡ kind.Name → ⊥) → is_name t.kind ≡ true →
    m ≡ record { hole = true; sighting = sighting.Missing } → ShowsName k m (unsigned_at (attributes_at out l t))
shows-unused k m out l t isnt is e =
    let hole = name-or-hole t.kind isnt is in
    subst (λ (n : Named). ShowsName k n (unsigned_at (attributes_at out l t))) (sym e)
    (subst (λ (a : Attributes). ShowsName k (record { hole = true; sighting = sighting.Missing }) (unsigned_at a)) (sym (hole-at out l t hole.0 hole.1)) (record { hole = refl; is_hole = refl; found = tt }))
