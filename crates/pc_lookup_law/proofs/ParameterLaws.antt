-- The parameters of a routine, by its heading and by places.
use Rattle.std.proofs.Common.{List, None, Option, Some, [], ap, append_assoc, arith, refl, subst, sym, true, ℕ, ◌++◌, ◌<◌, ◌∙◌, ◌∷◌, ◌≡◌}
use Rattle.std.specs.Option.{option_map_or}
use Rattle.pc_lookup_law.specs.ClassAt.{HasClass}
use Rattle.pc_lookup_law.proofs.ClassAtLaws.{Rooted, classed-right, rooted-kids, rooted-next}
use Rattle.pc_lookup_law.proofs.KidsLaws.{EndsInBlock, Headed, WithBlock, WithParameters}
use Rattle.pc_rule_laws.specs.ClassedPlaces.{AllFrom, AllUnder, DefinedUnder, classed-from, classed_at, places_in-classed, under-here}
use Rattle.pc_rule_laws.specs.HeadingLaws.{own-parameters}
use Rattle.pc_rule_laws.specs.Matching.{Matches}
use Rattle.pc_rule_laws.specs.ParameterNames.{firsts-count}
use Rattle.pc_rule_laws.specs.Roles.{defines-role, defines_by, keys, role, second_node}
use Rattle.pc_rule_laws.specs.Standing.{AllAre, AllClassed, Classed, places_in}
use Rattle.pc_rules.specs.Attributes.{Marked}
use Rattle.pc_rules.specs.Decorated.{decorate, rule, seen}
use Rattle.pc_rules.specs.Meanings.{Class, Local, Meaning, Outside, entry_of}
use Rattle.pc_rules.specs.OwnBlock.{heading_part}
use Rattle.pc_rules.specs.Places.{beside, inner}
use Rattle.pc_rules.specs.Routines.{Routine, bare, firsts, heading_marks, heading_start, params_in}
use Rattle.pc_scope.specs.Blocks.{kid_count, tree_at}
use Rattle.pc_scope.specs.Waiting.{parameters_at, parameters_of}
use Rattle.pc_syntax.specs.Classes.{is_block, is_name}
use Rattle.pc_syntax.specs.Plain.{Cons, Forest, Nil, Plain}
use Rattle.pc_syntax.specs.WellFormed.{WellFormed}
use Rattle.pc_syntax.specs.declared.kind.Kind.{Kind}
use Rattle.pc_syntax.specs.declared.kind.Kind.TheVariants as kind

-- what stands under kids of a place stands under the place
kid-definition : (p : List ℕ) (j : ℕ) (o : Option (List ℕ)) → DefinedUnder (p ++ j ∷ []) o → DefinedUnder p o
kid-definition p j None h = tt
kid-definition p j (Some d) h = (j ∷ h.0, h.1 ∙ append_assoc p (j ∷ []) h.0)

pub kids-under : (p : List ℕ) (i : ℕ) (es : List Classed) → AllFrom p i es → AllUnder p es
kids-under p i [] a = tt
kids-under p i (e ∷ es) a = (record { rest = a.0.kid ∷ a.0.rest; place = a.0.place; definition = kid-definition p a.0.kid e.at.definition a.0.definition }, kids-under p i es a.1)

pub under-kid : (p : List ℕ) (i : ℕ) (es : List Classed) → AllUnder (p ++ i ∷ []) es → AllUnder p es
under-kid p i [] a = tt
under-kid p i (e ∷ es) a =
    (record { rest = i ∷ a.0.rest; place = a.0.place ∙ append_assoc p (i ∷ []) a.0.rest; definition = kid-definition p i e.at.definition a.0.definition }, under-kid p i es a.1)

-- the number of the block among the kids of the routine with a number in a list
abbrev pub block_number : ℕ → Forest → ℕ
block_number c rs = option_map_or (λ (x : Plain). kid_count x.kids) (tree_at c rs) 0

-- The parameters `ds` of a routine are those of the routine with the number `c` in a list at a place: in its declarations `es`, each
-- with its class, they have the same names, and `es` are what the look-up by places takes.
pub record Parameters (t : Plain) (p : List ℕ) (rs : Forest) (ds : List (List ℕ × Meaning)) (c : ℕ) : Type 0 where
  pub placed : List Classed
  pub matches : (n : List ℕ) → Matches n (keys ds) placed
  pub places : places_in placed ≡ parameters_at p c rs
  pub later : (i m : ℕ) (way : List ℕ) → c < i → AllAre true (p ++ i ∷ m ∷ way) placed
  pub own : (way : List ℕ) → AllAre true (p ++ c ∷ block_number c rs ∷ way) placed
  pub classed : AllClassed (HasClass t) placed

-- a block declares nothing
block-quiet : (o : Kind) (l : Local) (m : Marked) → is_block o ≡ true → defines_by (role o) l m ≡ []
block-quiet kind.Block l m e = refl
block-quiet kind.Forward l m e = refl
block-quiet (kind.Hole s) l m e = refl
block-quiet _ l m e = cc e

block-part : (o : Kind) (u : List ℕ) (ms : List (List ℕ)) (us : Forest) → is_block o ≡ true → (vs : Forest) × (heading_part (Cons o u ms us Nil) ≡ Cons o u ms vs Nil)
block-part kind.Block u ms us e = (Nil, refl)
block-part kind.Forward u ms us e = (us, refl)
block-part (kind.Hole s) u ms us e = (us, refl)
block-part _ u ms us e = cc e

-- the name of a heading stays
name-part : (j : Kind) (v : List ℕ) (os : List (List ℕ)) (js ts : Forest) → is_name j ≡ true → heading_part (Cons j v os js ts) ≡ Cons j v os js (heading_part ts)
name-part kind.Name v os js ts e = refl
name-part (kind.Hole s) v os js ts e = refl
name-part _ v os js ts e = cc e

-- a heading with a name and a block alone has no parameters
second-quiet : (out : Outside) (n : List ℕ) (l : Local) (j o : Kind) (v u : List ℕ) (os ms : List (List ℕ)) (js us : Forest) → is_block o ≡ true →
    entry_of (keys (second_node (decorate out l (Cons j v os js (Cons o u ms us Nil)))).defines) n ≡ None
unfolding decorate
second-quiet out n l j o v u os ms js us e =
    let x : Local = beside l j (rule l j v (seen out l j v) (decorate out (inner l j js) js)) in
    let m : Marked = decorate out (inner x o us) us in
    ap (λ ds. entry_of ds n) (defines-role x o u (seen out x o u) m ∙ block-quiet o x m e)

block-alone : (n : List ℕ) (r : Routine) (j o : Kind) (v u : List ℕ) (os ms : List (List ℕ)) (js us : Forest) → is_name j ≡ true → is_block o ≡ true →
    r.heading ≡ heading_part (Cons j v os js (Cons o u ms us Nil)) → Matches n (keys (firsts [] (params_in (heading_marks r)).defines)) []
unfolding heading_marks
block-alone n r j o v u os ms js us name e same =
    let b = block-part o u ms us e in
    let f : r.heading ≡ Cons j v os js (Cons o u ms b.0 Nil) = same ∙ name-part j v os js (Cons o u ms us Nil) name ∙ ap (Cons j v os js) b.1 in
    firsts-count [] (params_in (heading_marks r)).defines n
    ∙ ap (λ x. entry_of (keys (second_node (decorate (bare r.means) (heading_start r.owner) x)).defines) n) f
    ∙ second-quiet (bare r.means) n (heading_start r.owner) j o v u os ms js b.0 e

behind-two : (j : Kind) (v : List ℕ) (os : List (List ℕ)) (js : Forest) (x : List ℕ) (ms : List (List ℕ)) (ps ts : Forest) → EndsInBlock ts → 2 < kid_count (Cons j v os js (Cons kind.Params x ms ps ts))
behind-two j v os js x ms ps Nil h = absurd h
behind-two j v os js x ms ps (Cons k w ns ks ts) h = omega arith

-- The parameters of a routine by its own heading.
pub own-heading : (t : Plain) (p : List ℕ) (rs : Forest) (r : Routine) (i : ℕ) (k : Kind) (w : List ℕ) (ns : List (List ℕ)) (ks : Forest) (c : Option Class) →
    tree_at i rs ≡ Some (record { kind = k; word = w; notes = ns; kids = ks }) → r.heading ≡ heading_part ks → WellFormed ks → Rooted t (p ++ i ∷ []) c 1 ks → Headed ks →
    Parameters t p rs (firsts [] (params_in (heading_marks r)).defines) i
own-heading t p rs r i k w ns ks c at same sound root shape = by shape where
  q : List ℕ
  q = p ++ i ∷ []

  here : parameters_at p i rs ≡ parameters_of (p ++ i ∷ []) ks
  here = ap (λ (o : Option Plain). option_map_or (λ (x : Plain). parameters_of (p ++ i ∷ []) x.kids) o []) at

  number : block_number i rs ≡ kid_count ks
  number = ap (λ (o : Option Plain). option_map_or (λ (x : Plain). kid_count x.kids) o 0) at

  by : Headed ks → Parameters t p rs (firsts [] (params_in (heading_marks r)).defines) i
  by (WithParameters j v x os ms js ps ts name e ends) =
      let s : WellFormed (Cons j v os js (Cons kind.Params x ms ps ts)) = subst WellFormed e sound in
      let under : AllUnder (q ++ 2 ∷ []) (classed_at (q ++ 2 ∷ []) 1 ps) = kids-under (q ++ 2 ∷ []) 1 (classed_at (q ++ 2 ∷ []) 1 ps) (classed-from (q ++ 2 ∷ []) 1 ps) in
      let root2 : Rooted t q c 1 (Cons j v os js (Cons kind.Params x ms ps ts)) = subst (Rooted t q c 1) e root in
      record {
        placed = classed_at (q ++ 2 ∷ []) 1 ps;
        matches = λ n. own-parameters n q r j v x os ms js ps ts name s.4 (same ∙ ap heading_part e);
        places = places_in-classed (q ++ 2 ∷ []) 1 ps ∙ sym (here ∙ ap (parameters_of q) e);
        later = λ j m way less. under-here p (m ∷ way) i j (classed_at (q ++ 2 ∷ []) 1 ps) less (under-kid q 2 (classed_at (q ++ 2 ∷ []) 1 ps) under);
        own = λ way.
            subst (λ (m : ℕ). AllAre true (p ++ i ∷ m ∷ way) (classed_at (q ++ 2 ∷ []) 1 ps)) (sym number)
            (subst (λ z. AllAre true z (classed_at (q ++ 2 ∷ []) 1 ps)) (append_assoc p (i ∷ []) (kid_count ks ∷ way))
            (under-here q way 2 (kid_count ks) (classed_at (q ++ 2 ∷ []) 1 ps) (subst (λ f. 2 < kid_count f) (sym e) (behind-two j v os js x ms ps ts ends)) under));
        classed = classed-right t (q ++ 2 ∷ []) c 1 ps s.4.3 (rooted-kids t q c 2 kind.Params x ms ps ts (rooted-next t q c 1 j v os js (Cons kind.Params x ms ps ts) root2));
      }
  by (WithBlock j o v u os ms js us name e f) = record {
    placed = [];
    matches = λ n. block-alone n r j o v u os ms js us name e (same ∙ ap heading_part f);
    places = sym (here ∙ ap (parameters_of q) f ∙ none o e);
    later = λ j m way less. tt;
    own = λ way. tt;
    classed = tt;
  } where
    none : (o : Kind) → is_block o ≡ true → parameters_of (p ++ i ∷ []) (Cons j v os js (Cons o u ms us Nil)) ≡ []
    none kind.Block e = refl
    none kind.Forward e = refl
    none (kind.Hole s) e = refl
    none _ e = cc e
