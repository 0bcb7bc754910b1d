-- From node to node of a block each name is known once, and stands before.
use Rattle.std.proofs.Common.{◌≡◌, ℕ, List, [], ◌∷◌, refl, sym, ◌∙◌, ap, subst}
use Rattle.pc_syntax.specs.declared.kind.Kind.{Kind}
use Rattle.pc_syntax.specs.declared.kind.Kind.TheVariants as kind
use Rattle.pc_syntax.specs.Plain.{Forest, Plain}
use Rattle.pc_syntax.specs.Words.{is_among}
use Rattle.pc_scope.specs.Headings.{first_name, names_of_first}
use Rattle.pc_rules.specs.Attributes.{Attributes}
use Rattle.pc_rules.specs.DeclaringNames.{all_as}
use Rattle.pc_rules.specs.Meanings.{VariableName, Meaning, Local, Outside, declared_as, entry_of, define_all}
use Rattle.pc_rules.specs.Places.{pass, pass_all, past_routine, entered, inner, behind, beside}
use Rattle.pc_environment.specs.Decorating.{attributes_at, place_behind, place_after}
use Rattle.pc_carrying.specs.Parts.{types_of}
use Rattle.pc_block_laws.specs.Block.{OnceEach}
use Rattle.pc_block_laws.specs.Once.{KnowsOnce}
use Rattle.pc_block_laws.proofs.OnceLemmas.{among-front, all-once, closed-once}

-- ---- nodes

pass-once : (l : Local) (n : List ℕ) → KnowsOnce l → KnowsOnce (pass l n)
pass-once l [] h = h
pass-once l (c ∷ cs) h = record { once = h.once; passed = λ x r q. among-front l.passed ((c ∷ cs) ∷ []) x (h.passed x r q) }

pass_all-once : (l : Local) (ds : List (List ℕ × Meaning)) → KnowsOnce l → KnowsOnce (pass_all l ds)
pass_all-once l [] h = h
pass_all-once l (d ∷ ds) h = pass_all-once (pass l d.0) ds (pass-once l d.0 h)

-- another place with the same names
same-once : (l m : Local) → m.known ≡ l.known → m.passed ≡ l.passed → KnowsOnce l → KnowsOnce m
same-once l m e f h = record {
  once = subst OnceEach (sym e) h.once;
  passed = λ n x q. ap (λ (ns : List (List ℕ)). is_among ns n) f ∙ h.passed n x (ap (λ (ds : List (List ℕ × Meaning)). entry_of ds n) (sym e) ∙ q);
}

entered-once : (l : Local) (k : Kind) (ks : Forest) → KnowsOnce l → KnowsOnce (entered l k ks)
entered-once l kind.Constdef ks h = pass-once l (first_name ks) h
entered-once l kind.Typedef ks h = pass-once l (first_name ks) h
entered-once l kind.Vardef ks h = all-once l (all_as (declared_as VariableName l.owner) (names_of_first ks)) h
entered-once l kind.Routines ks h = same-once l _ refl refl h
entered-once l (kind.Hole s) ks h = h
entered-once l _ ks h = h

pub inner-once : (l : Local) (k : Kind) (ks : Forest) → KnowsOnce l → KnowsOnce (inner l k ks)
inner-once l k ks h = same-once (entered l k ks) (inner l k ks) refl refl (entered-once l k ks h)

past-once : (l : Local) → KnowsOnce l → KnowsOnce (past_routine l)
past-once l h = same-once l (past_routine l) refl refl h

behind-once : (l : Local) (k : Kind) (a : Attributes) → KnowsOnce l → KnowsOnce (behind l k a)
behind-once l kind.Types a h = closed-once (define_all l a.defines) (all-once l a.defines h)
behind-once l kind.Procedure a h = past-once (define_all l a.defines) (all-once l a.defines h)
behind-once l kind.Function a h = past-once (define_all l a.defines) (all-once l a.defines h)
behind-once l kind.Funbody a h = past-once (define_all l a.defines) (all-once l a.defines h)
behind-once l (kind.Hole s) a h = same-once l _ refl refl h
behind-once l kind.Valparam a h = pass_all-once l a.defines h
behind-once l kind.Varparam a h = pass_all-once l a.defines h
behind-once l kind.Params a h = pass_all-once l a.defines h
behind-once l _ a h = all-once l a.defines h

pub beside-once : (l : Local) (k : Kind) (a : Attributes) → KnowsOnce l → KnowsOnce (beside l k a)
beside-once l k a h = same-once (behind l k a) (beside l k a) refl refl (behind-once l k a h)

pub after-once : (out : Outside) (l : Local) (ts : List Plain) → KnowsOnce l → KnowsOnce (place_after out l ts)
after-once out l [] h = h
after-once out l (t ∷ ts) h = after-once out (place_behind out l t) ts (beside-once l t.kind (attributes_at out l t) h)

-- before the types are closed
pub types-once : (out : Outside) (l : Local) (constants types : Plain) → KnowsOnce l → KnowsOnce (types_of out l constants types)
types-once out l constants types h =
    let next = place_behind out l constants in all-once next (attributes_at out next types).defines (beside-once l constants.kind (attributes_at out l constants) h)
