-- A block is begun: the tables come to stand for its first place: lemmas.
use Rattle.std.proofs.Common.{◌≡◌, ℕ, List, [], ◌∷◌, ◌++◌, map, length, take, slice_get, Option, Some, refl, ap, sym, ◌∙◌, subst, if◌then◌else◌, append-nil, arith}
use Rattle.std.proofs.lemmas.List.{take_all}
use Rattle.std.specs.Option.{unwrap_or}
use Rattle.pc_syntax.specs.Plain.{Nil, Plain}
use Rattle.pc_syntax.specs.declared.kind.Kind.{Kind}
use Rattle.pc_syntax.specs.declared.kind.Kind.TheVariants as kind
use Rattle.pc_types.specs.Shapes.{Owner}
use Rattle.pc_scope.specs.Headings.{is_routine_kind}
use Rattle.pc_names.specs.Bindings.{empty_slot, slot_in}
use Rattle.pc_names.specs.Chains.{AreBelow, chain_of, chain_around, with_block}
use Rattle.pc_names.specs.FindingLaws.{FindsAlong-kept}
use Rattle.pc_names.specs.Numbers.{AreDistinct}
use Rattle.pc_names.specs.Standing.{StandsFor}
use Rattle.pc_names.specs.StandingChanges.{StandsFor-begun}
use Rattle.pc_names.specs.Table.{Table, slot_named}
use Rattle.pc_rules.specs.Meanings.{Class, Meaning, Local}
use Rattle.pc_rules.specs.OwnBlock.{declared_in}
use Rattle.pc_rules.specs.RequiredMeanings.{required_or_missing}
use Rattle.pc_rules.specs.Routines.{block_start}
use Rattle.pc_growth.specs.Grows.{Begins, Grows}
use Rattle.pc_growth.specs.GrowsLaws.{Begins-same}
use Rattle.pc_places.specs.declared.parameter.Parameter.{Parameter}
use Rattle.pc_places.specs.declared.tables.Tables.{Tables}
use Rattle.pc_places.specs.Parameters.{ShowsParameters, HaveNames}
use Rattle.pc_places.specs.Places.{known, IsNamed}
use Rattle.pc_places.specs.SceneLaws.{ShowsUnsigned-grows, FindsAlong-more}
use Rattle.pc_places.specs.Scenes.{ShowsUnsigned}
use Rattle.pc_openings.specs.Announced.{Announced}
use Rattle.pc_openings.specs.AnnouncedLaws.{Announced-named, StandsFor-announced}
use Rattle.pc_openings.specs.Declaring.{declared_below}
use Rattle.pc_openings.specs.DeclaringLaws.{declared_in-own}
use Rattle.pc_openings.specs.Opened.{own_block, AreFirst, with_parameters, Carries, Opens}
use Rattle.pc_openings.specs.CarriesLaws.{with_parameters-is, length-shown}

-- what a block declares somewhere is what the nodes below it declare
pub block-declares : (t : Plain) → t.kind ≡ kind.Block → declared_in (own_block (Some t)) ≡ declared_below t
block-declares t e = declared_in-own t.kids ∙ sym (ap (λ (k : Kind). if is_routine_kind k then [] else declared_in t.kids) e)

slice_get-last : {X : Type 0} (xs : List X) (x : X) → slice_get (xs ++ x ∷ []) (length xs) ≡ Some x
slice_get-last [] x = refl
slice_get-last (y ∷ xs) x = slice_get-last xs x

chain-last : (chains : List (List ℕ)) (chain : List ℕ) → chain_of (chains ++ chain ∷ []) (length chains) ≡ chain
chain-last chains chain = ap (λ (o : Option (List ℕ)). unwrap_or o []) (slice_get-last chains chain)

-- the place where a block begins, before its parameters and what it declares
abbrev bare_start : Owner → Option (Owner × List ℕ) → Local
bare_start o self = block_start o self [] Nil

module _ (around : Option ℕ) (ps : List Parameter) (node : Option Plain) (block : ℕ) (old : Tables) (a b c : Table)
    (number : block ≡ length old.names.chains) (begun : a ≡ record old.names { chains = with_block old.names.chains around })
    (below : AreBelow block (chain_around old.names.chains around)) (empty : (n : ℕ) → slot_in a.slots block n ≡ empty_slot)
    (carries : Carries old.declarations.items block ps (length ps) a b) (announced_more : Announced block (declared_in (own_block node)) b c) where
  texts-b : b.texts ≡ old.names.texts
  texts-b = carries.texts ∙ ap (λ (t : Table). t.texts) begun

  chains-c : c.chains ≡ with_block old.names.chains around
  chains-c = announced_more.chains ∙ carries.chains ∙ ap (λ (t : Table). t.chains) begun

  others-c : (o : ℕ) (n : List ℕ) → (o ≡ block → ⊥) → slot_named c o n ≡ slot_named old.names o n
  others-c o n apart = announced_more.others o n apart ∙ carries.others o n apart ∙ ap (λ (t : Table). slot_named t o n) begun

  distinct-c : AreDistinct old.names.texts → AreDistinct c.texts
  distinct-c d = announced_more.distinct (subst AreDistinct (sym texts-b) d)

  grows-c : Grows (known old) (known (record old { names = c }))
  grows-c = record {
    shapes = Begins-same (known old).table.shapes;
    owners = Begins-same (known old).table.owners;
    names = subst (λ (ts : List (List ℕ)). Begins ts c.texts) texts-b announced_more.texts;
    texts = Begins-same old.texts.items;
    signatures = Begins-same old.signatures.items;
  }

  told-c : (d : ℕ) (m : Meaning) → ShowsUnsigned (known old) old.declarations.items d m → ShowsUnsigned (known (record old { names = c })) old.declarations.items d m
  told-c d m = ShowsUnsigned-grows (known old) (known (record old { names = c })) old.declarations.items old.declarations.items d m grows-c (Begins-same old.declarations.items)

  own-c : (o : Owner) (self : Option (Owner × List ℕ)) (es : List (List ℕ × Meaning)) → AreDistinct old.names.texts → ShowsParameters (known old) old.declarations.items ps es → AreFirst [] es →
      StandsFor (ShowsUnsigned (known (record old { names = c })) old.declarations.items) c block (block_start o self es (own_block node))
  own-c o self es distinct shows first =
      let D = ShowsUnsigned (known old) old.declarations.items in
      let E = ShowsUnsigned (known (record old { names = c })) old.declarations.items in
      let l = bare_start o self in
      let texts-a : a.texts ≡ old.names.texts = ap (λ (t : Table). t.texts) begun in
      let start : StandsFor D a block l = StandsFor-begun D a block l empty in
      let some = carries.stands (known old) es l (subst AreDistinct (sym texts-a) distinct) (sym texts-a) shows start in
      let all : take (length ps) es ≡ es = take_all (length ps) es (let n = length-shown (known old) old.declarations.items ps es shows in omega (arith, n)) in
      let given : StandsFor D b block (block_start o self es Nil) =
      subst (λ (x : Local). StandsFor D b block x) (ap (with_parameters l) all ∙ with_parameters-is l es first ∙ (λ i. record l {
        names = sym (append-nil (map (λ (d : List ℕ × Meaning). (d.0, d.1.class)) es)) i;
        passed = map (λ (d : List ℕ × Meaning). d.0) es;
        known = es;
      })) some in
      subst (λ (ns : List (List ℕ × Class)). StandsFor E c block (record (block_start o self es Nil) { names = ns }))
      (ap (λ (ns : List (List ℕ × Class)). ns ++ declared_in (own_block node)) (append-nil (map (λ (d : List ℕ × Meaning). (d.0, d.1.class)) es)))
      (StandsFor-announced D E block (declared_in (own_block node)) b c (block_start o self es Nil) told-c announced_more given)

  named-a : IsNamed old.names old.declarations.items → IsNamed a old.declarations.items
  named-a is = subst (λ (t : Table). IsNamed t old.declarations.items) (sym begun) is

  named-c : HaveNames old.declarations.items ps → IsNamed old.names old.declarations.items → IsNamed c old.declarations.items
  named-c have is = Announced-named block (declared_in (own_block node)) b c old.declarations.items announced_more (carries.named have (named-a is))

  pub opens : Opens (chain_around old.names.chains around) ps node block old (record old { names = c })
  opens = record {
    number = number;
    chains = chains-c;
    names = grows-c.names;
    types = refl;
    declarations = refl;
    signatures = refl;
    texts = refl;
    moves = λ have. record {
      grows = grows-c;
      declarations = Begins-same old.declarations.items;
      chains = record { more = (length old.names.chains ∷ chain_around old.names.chains around) ∷ []; is = chains-c };
      distinct = distinct-c;
      others = λ o n there apart. others-c o n apart;
      named = named-c have;
      domains = Begins-same (known old).table.domains;
      owners = refl;
    };
    place = λ owner o self out es owner_is there distinct finds shows first.
        let D = ShowsUnsigned (known old) old.declarations.items in
        let E = ShowsUnsigned (known (record old { names = c })) old.declarations.items in
        let outer = chain_around old.names.chains around in
        record {
          own = own-c o self es distinct shows first;
          outer = outer;
          chain = ap (λ (cs : List (List ℕ)). chain_of cs block) chains-c ∙ ap (chain_of (with_block old.names.chains around)) number
              ∙ chain-last old.names.chains (length old.names.chains ∷ outer) ∙ ap (λ (n : ℕ). n ∷ outer) (sym number);
          below = below;
          around = FindsAlong-kept E required_or_missing old.names c block outer out.means below (λ o less n. others-c o n (λ e. omega arith))
              (FindsAlong-more D E required_or_missing old.names outer out.means told-c finds);
          closed = refl;
          distinct = distinct-c distinct;
          owner_is = owner_is;
          there = there;
        };
  }
