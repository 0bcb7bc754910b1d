-- The kids of a well-formed block, and of a routine: its block is the last.
use Rattle.std.specs.Prelude.{ℕ, ◌≡◌, true, List, [], ◌∷◌}
use Rattle.std.proofs.Common.{refl, sym, true≢false}
use Rattle.std.proofs.lemmas.Bool.{and_parts}
use Rattle.pc_syntax.specs.declared.kind.Kind.{Kind}
use Rattle.pc_syntax.specs.declared.kind.Kind.TheVariants as kind
use Rattle.pc_syntax.specs.declared.class.Class.TheVariants as class
use Rattle.pc_syntax.specs.Classes.{has}
use Rattle.pc_syntax.specs.Layout.{layout}
use Rattle.pc_syntax.specs.Plain.{Forest, Nil, Cons, count, kinds}
use Rattle.pc_syntax.specs.WellFormed.{fits_some}

consts-kind : (k : Kind) → has class.Consts k ≡ true → k ≡ kind.Consts
consts-kind kind.Consts e = refl
consts-kind _ e = absurd (true≢false (sym e))

types-kind : (k : Kind) → has class.Types k ≡ true → k ≡ kind.Types
types-kind kind.Types e = refl
types-kind _ e = absurd (true≢false (sym e))

vars-kind : (k : Kind) → has class.Vars k ≡ true → k ≡ kind.Vars
vars-kind kind.Vars e = refl
vars-kind _ e = absurd (true≢false (sym e))

routines-kind : (k : Kind) → has class.Routines k ≡ true → k ≡ kind.Routines
routines-kind kind.Routines e = refl
routines-kind _ e = absurd (true≢false (sym e))

-- the parts of a well-formed block: constants, types, variables, routines, and the statement part
pub record BlockParts (f : Forest) : Type 0 where
  pub v1 : List ℕ
  pub n1 : List (List ℕ)
  pub k1 : Forest
  pub v2 : List ℕ
  pub n2 : List (List ℕ)
  pub k2 : Forest
  pub v3 : List ℕ
  pub n3 : List (List ℕ)
  pub k3 : Forest
  pub v4 : List ℕ
  pub n4 : List (List ℕ)
  pub k4 : Forest
  pub j : Kind
  pub v5 : List ℕ
  pub n5 : List (List ℕ)
  pub k5 : Forest
  pub is : f ≡ Cons kind.Consts v1 n1 k1 (Cons kind.Types v2 n2 k2 (Cons kind.Vars v3 n3 k3 (Cons kind.Routines v4 n4 k4 (Cons j v5 n5 k5 Nil))))
  pub body : has class.Body j ≡ true

pub block-parts : (w : List ℕ) (f : Forest) → fits_some (layout kind.Block w (count f)) (kinds f) ≡ true → BlockParts f
block-parts (x ∷ w) f e = absurd (true≢false (sym e))
block-parts [] Nil e = absurd (true≢false (sym e))
block-parts [] (Cons a v1 n1 k1 Nil) e = absurd (true≢false (sym (and_parts (has class.Consts a) _ e).1))
block-parts [] (Cons a v1 n1 k1 (Cons b v2 n2 k2 Nil)) e = absurd (true≢false (sym (and_parts (has class.Types b) _ (and_parts (has class.Consts a) _ e).1).1))
block-parts [] (Cons a v1 n1 k1 (Cons b v2 n2 k2 (Cons c v3 n3 k3 Nil))) e =
    absurd (true≢false (sym (and_parts (has class.Vars c) _ (and_parts (has class.Types b) _ (and_parts (has class.Consts a) _ e).1).1).1))
block-parts [] (Cons a v1 n1 k1 (Cons b v2 n2 k2 (Cons c v3 n3 k3 (Cons d v4 n4 k4 Nil)))) e =
    absurd (true≢false (sym (and_parts (has class.Routines d) _ (and_parts (has class.Vars c) _ (and_parts (has class.Types b) _ (and_parts (has class.Consts a) _ e).1).1).1).1))
block-parts [] (Cons a v1 n1 k1 (Cons b v2 n2 k2 (Cons c v3 n3 k3 (Cons d v4 n4 k4 (Cons j v5 n5 k5 Nil))))) e =
    let x = and_parts (has class.Consts a) _ e in
    let y = and_parts (has class.Types b) _ x.1 in
    let z = and_parts (has class.Vars c) _ y.1 in
    let u = and_parts (has class.Routines d) _ z.1 in
    record {
      v1 = v1;
      n1 = n1;
      k1 = k1;
      v2 = v2;
      n2 = n2;
      k2 = k2;
      v3 = v3;
      n3 = n3;
      k3 = k3;
      v4 = v4;
      n4 = n4;
      k4 = k4;
      j = j;
      v5 = v5;
      n5 = n5;
      k5 = k5;
      is = λ i. Cons (consts-kind a x.0 i) v1 n1 k1 (Cons (types-kind b y.0 i) v2 n2 k2 (Cons (vars-kind c z.0 i) v3 n3 k3 (Cons (routines-kind d u.0 i) v4 n4 k4 (Cons j v5 n5 k5 Nil))));
      body = (and_parts (has class.Body j) true u.1).0;
    }
block-parts [] (Cons a v1 n1 k1 (Cons b v2 n2 k2 (Cons c v3 n3 k3 (Cons d v4 n4 k4 (Cons j v5 n5 k5 (Cons m v6 n6 k6 ts)))))) e =
    absurd (true≢false (sym (and_parts (has class.Body j) _ (and_parts (has class.Routines d) _ (and_parts (has class.Vars c) _ (and_parts (has class.Types b) _ (and_parts (has class.Consts a) _ e).1).1).1).1).1))
