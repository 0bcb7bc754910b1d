-- From one block to the look-up through all blocks around.
use Rattle.std.proofs.Common.{Bool, List, None, Option, Some, [], ap, arith, eq-eqb, false, if◌then◌else◌, ne_eqb, option_map, refl, subst, sym, true, ℕ, ◌&&◌, ◌==◌, ◌∙◌, ◌∷◌, ◌≡◌}
use Rattle.std.specs.Option.{option_and_then, option_map_or, option_or}
use Rattle.pc_rule_laws.specs.Agreement.{Agrees, Spot, seen_among, seen_or, spot}
use Rattle.pc_rule_laws.specs.Block.{among-routines}
use Rattle.pc_rule_laws.specs.Orderly.{RoutineList}
use Rattle.pc_rule_laws.specs.Reached.{BehindIt, IntoIt, IsUse, ToIt, leads}
use Rattle.pc_rule_laws.specs.Roles.{RoutinePart, role}
use Rattle.pc_rule_laws.specs.RoutineLaw.{past}
use Rattle.pc_rules.specs.Places.{inner}
use Rattle.pc_rules.specs.Meanings.{Class, Component, Found, Here, Later, Local, Missing, Outside, Required, is_routine_class}
use Rattle.pc_rules.specs.Routines.{Routine}
use Rattle.pc_rules.specs.OwnBlock.{bare_heading, own}
use Rattle.pc_rules.specs.Outsides.{completed_by, signature_named}
use Rattle.pc_scope.specs.Around.{Block, declared_in, first_declared, inner_block, program_block}
use Rattle.pc_scope.specs.Declarations.{Declared, HereAt, LaterAt, Meant, MissingAt, RequiredAt}
use Rattle.pc_scope.specs.Headings.{ends_forward, first_name, heading_of, headings_in, is_function_kind, is_routine_kind}
use Rattle.pc_scope.specs.Lookup.{Declaration, declaration, declaration_in, declared_here, lookup, required_or_not, seen_from}
use Rattle.pc_syntax.specs.Plain.{Cons, Forest, Nil, Plain}
use Rattle.pc_syntax.specs.Words.{lowered}
use Rattle.pc_syntax.specs.declared.kind.Kind.{Kind}
use Rattle.pc_types.specs.Sameness.{same}
use Rattle.pc_syntax.specs.declared.kind.Kind.TheVariants as kind

-- the signature that a routine's name gets doesn't change what is meant
pub completed-agrees : (T : List ℕ → Class → Type 0) (rs : List Routine) (n : List ℕ) (f : Found) (m : Meant) → Agrees T f m → Agrees T (completed_by rs n f) m
completed-agrees T rs n (Here x) (HereAt p) h =
    let same : x.class ≡ (if is_routine_class x.class then record x { signature = signature_named rs x.owner n } else x).class =
    elim (is_routine_class x.class) as (λ (b : Bool). x.class ≡ (if b then record x { signature = signature_named rs x.owner n } else x).class) [ true ↦ refl | false ↦ refl ] in
    subst (λ c. T p c) same h
completed-agrees T rs n (Here x) (LaterAt p) h = absurd h
completed-agrees T rs n (Here x) RequiredAt h = absurd h
completed-agrees T rs n (Here x) MissingAt h = absurd h
completed-agrees T rs n (Later c) m h = h
completed-agrees T rs n (Component t p) m h = h
completed-agrees T rs n (Required x) m h = h
completed-agrees T rs n Missing m h = h

-- a routine cut down to its heading has the same heading for pairing
bare-first : (ks : Forest) → first_name (bare_heading ks) ≡ first_name ks
bare-first Nil = refl
bare-first (Cons kind.Params w ns ks ts) = refl
bare-first (Cons kind.Block w ns ks ts) = refl
bare-first (Cons k w ns ks ts) = refl

bare-forward : (ks : Forest) → ends_forward (bare_heading ks) ≡ ends_forward ks
bare-forward Nil = refl
bare-forward (Cons kind.Params w ns ks ts) = bare-forward ts
bare-forward (Cons kind.Block w ns ks ts) = bare-forward ts
bare-forward (Cons kind.Forward w ns ks ts) = refl
bare-forward (Cons k w ns ks ts) = bare-forward ts

bare-heading : (k : Kind) (ks : Forest) → heading_of k (bare_heading ks) ≡ heading_of k ks
bare-heading k ks = λ i. record { name = bare-first ks i; is_function = is_function_kind k; is_forward = is_routine_kind k && bare-forward ks i }

own-first : (ks : Forest) → first_name (own ks) ≡ first_name ks
unfolding own
own-first Nil = refl
own-first (Cons k w ns ks ts) = refl

pub own-headings : (f : Forest) → headings_in (own f) ≡ headings_in f
unfolding own
own-headings Nil = refl
own-headings (Cons k w ns ks ts) = λ i. by (is_routine_kind k) refl i ∷ own-headings ts i where
  by : (b : Bool) → is_routine_kind k ≡ b → heading_of k (if b then bare_heading ks else own ks) ≡ heading_of k ks
  by true e = bare-heading k ks
  by false e =
      (λ i. record { name = own-first ks i; is_function = is_function_kind k; is_forward = e i && ends_forward (own ks) })
      ∙ (λ i. record { name = first_name ks; is_function = is_function_kind k; is_forward = sym e i && ends_forward ks })

-- a used name of a block doesn't stand in its fourth kid, where the routines are
pub not-fourth : (out : Outside) (l : Local) (k1 k2 k3 k4 : Kind) (w1 w2 w3 w4 : List ℕ) (n1 n2 n3 n4 : List (List ℕ)) (c1 c2 c3 rs rest : Forest) (j : ℕ) (way : List ℕ) (s : Spot) →
    role k4 ≡ RoutinePart → RoutineList rs → spot out l 1 (Cons k1 w1 n1 c1 (Cons k2 w2 n2 c2 (Cons k3 w3 n3 c3 (Cons k4 w4 n4 rs rest)))) (j ∷ way) ≡ Some s → IsUse s → (j == 4) ≡ false
not-fourth out l k1 k2 k3 k4 w1 w2 w3 w4 n1 n2 n3 n4 c1 c2 c3 rs rest j way s part list e u =
    elim (leads out l 1 k1 w1 n1 c1 (Cons k2 w2 n2 c2 (Cons k3 w3 n3 c3 (Cons k4 w4 n4 rs rest))) j way s e) [
      | ToIt same end here kind ↦ ne_eqb j 4 (λ f. absurd (omega (arith, same, f)))
      | IntoIt same m more is apart e ↦ ne_eqb j 4 (λ f. absurd (omega (arith, same, f)))
      | BehindIt less e ↦ second (past out l k1 w1 n1 c1) e
    ] where
      fourth : (l : Local) → spot out l 4 (Cons k4 w4 n4 rs rest) (j ∷ way) ≡ Some s → (j == 4) ≡ false
      fourth l e =
          elim (leads out l 4 k4 w4 n4 rs rest j way s e) [
            | ToIt same end here is ↦ absurd (cc (sym (ap role (sym is ∙ u.kind)) ∙ part))
            | IntoIt same m more is apart e ↦ absurd (among-routines out (inner l k4 rs) 1 rs m more s list e u)
            | BehindIt less e ↦ ne_eqb j 4 (λ f. absurd (omega (arith, less, f)))
          ]

      third : (l : Local) → spot out l 3 (Cons k3 w3 n3 c3 (Cons k4 w4 n4 rs rest)) (j ∷ way) ≡ Some s → (j == 4) ≡ false
      third l e =
          elim (leads out l 3 k3 w3 n3 c3 (Cons k4 w4 n4 rs rest) j way s e) [
            | ToIt same end here kind ↦ ne_eqb j 4 (λ f. absurd (omega (arith, same, f)))
            | IntoIt same m more is apart e ↦ ne_eqb j 4 (λ f. absurd (omega (arith, same, f)))
            | BehindIt less e ↦ fourth (past out l k3 w3 n3 c3) e
          ]

      second : (l : Local) → spot out l 2 (Cons k2 w2 n2 c2 (Cons k3 w3 n3 c3 (Cons k4 w4 n4 rs rest))) (j ∷ way) ≡ Some s → (j == 4) ≡ false
      second l e =
          elim (leads out l 2 k2 w2 n2 c2 (Cons k3 w3 n3 c3 (Cons k4 w4 n4 rs rest)) j way s e) [
            | ToIt same end here kind ↦ ne_eqb j 4 (λ f. absurd (omega (arith, same, f)))
            | IntoIt same m more is apart e ↦ ne_eqb j 4 (λ f. absurd (omega (arith, same, f)))
            | BehindIt less e ↦ third (past out l k2 w2 n2 c2) e
          ]

-- the look-up by places begins in the program's block, with the required names around
pub lookup-in : (t : Plain) (name way : List ℕ) → lookup t name (3 ∷ way) ≡ seen_or (3 ∷ way) (declaration_in (lowered name) (program_block t) way) (required_or_not (lowered name))
unfolding lookup declaration
lookup-in t name way = refl

-- the declaration of a block, seen from a place
here-among : (q n : List ℕ) (b : Block) (outer : Meant) → seen_or q (declared_here n b) outer ≡ seen_among q (declared_in b) n outer
here-among q n b outer = by (first_declared n (declared_in b)) where
  by : (o : Option Declared) → seen_or q (option_map (λ d. record { declared = d; owner = b.owner.key }) o) outer ≡ option_map_or (λ d. seen_from q d) o outer
  by None = refl
  by (Some d) = refl

-- so the look-up by places ends in that block
pub meant-stays : (n q : List ℕ) (b : Block) (j : ℕ) (way : List ℕ) (outer : Meant) → (j == 4) ≡ false →
    seen_or q (declaration_in n b (j ∷ way)) outer ≡ seen_among q (declared_in b) n outer
unfolding declaration_in
meant-stays n q b j [] outer e = here-among q n b outer
meant-stays n q b j (i ∷ []) outer e = here-among q n b outer
meant-stays n q b j (i ∷ k ∷ way) outer e = ap (λ (t : Bool). seen_or q (further t (inner_block b i)) outer) e ∙ ap (λ x. seen_or q x outer) (ends (inner_block b i)) ∙ here-among q n b outer where
  further : Bool → Option Block → Option Declaration
  further t x = elim (option_and_then (λ (c : Block). if t && c.number == k then Some c else None) x) as (λ x. Option Declaration) [
    | None ↦ declared_here n b
    | Some c ↦ option_or (declaration_in n c way) (declared_here n b)
  ]

  ends : (x : Option Block) → further false x ≡ declared_here n b
  ends None = refl
  ends (Some c) = refl

-- and in the block of a routine it goes on from what is meant in the block around
pub meant-enters : (n q : List ℕ) (b : Block) (i : ℕ) (c : Block) (way : List ℕ) (outer : Meant) → inner_block b i ≡ Some c →
    seen_or q (declaration_in n b (4 ∷ i ∷ c.number ∷ way)) outer ≡ seen_or q (declaration_in n c way) (seen_among q (declared_in b) n outer)
unfolding declaration_in
meant-enters n q b i c way outer e =
    ap (λ (x : Option Block). seen_or q (further x) outer) e
    ∙ ap (λ (t : Bool). seen_or q (taken t) outer) (eq-eqb c.number c.number refl)
    ∙ both (declaration_in n c way)
    ∙ ap (λ m. seen_or q (declaration_in n c way) m) (here-among q n b outer) where
      further : Option Block → Option Declaration
      further x = elim (option_and_then (λ (d : Block). if 4 == 4 && d.number == c.number then Some d else None) x) as (λ x. Option Declaration) [
        | None ↦ declared_here n b
        | Some d ↦ option_or (declaration_in n d way) (declared_here n b)
      ]

      taken : Bool → Option Declaration
      taken t = elim (if t then Some c else None) as (λ (x : Option Block). Option Declaration) [
        | None ↦ declared_here n b
        | Some d ↦ option_or (declaration_in n d way) (declared_here n b)
      ]

      both : (o : Option Declaration) → seen_or q (option_or o (declared_here n b)) outer ≡ seen_or q o (seen_or q (declared_here n b) outer)
      both None = refl
      both (Some d) = refl
