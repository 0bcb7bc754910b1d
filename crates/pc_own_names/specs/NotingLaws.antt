-- Names noted one after the other: lemmas.
use Rattle.std.proofs.Common.{◌≡◌, ℕ, Bool, true, false, List, [], ◌∷◌, ◌++◌, Option, Some, None, map, refl, ap, sym, ◌∙◌, true≢false, if◌then◌else◌, append_assoc, append-nil}
use Rattle.std.proofs.lemmas.List.{map-append}
use Rattle.std.specs.Option.{is_some}
use Rattle.pc_syntax.specs.declared.kind.Kind.{Kind}
use Rattle.pc_names.specs.Numbers.{number_of, with_name, with_name_if}
use Rattle.pc_own_names.specs.declared.own_name.DeclaredName.{DeclaredName}
use Rattle.pc_own_names.specs.Noting.{new_among, with_names, kept, Notes}

-- ---- two lists of names

pub with_names-append : (ms : List (List ℕ)) (xs ys : List (List ℕ × Kind)) → with_names ms (xs ++ ys) ≡ with_names (with_names ms xs) ys
with_names-append ms [] ys = refl
with_names-append ms (x ∷ xs) ys = with_names-append (with_name ms x.0) xs ys

-- a name that is there already
same-if : (o : Option ℕ) (ms : List (List ℕ)) (n : List ℕ) → is_some o ≡ true → with_name_if o ms n ≡ ms
same-if (Some i) ms n e = refl
same-if None ms n e = absurd (true≢false (sym e))

pub with_name-same : (ms : List (List ℕ)) (n : List ℕ) → is_some (number_of ms n) ≡ true → with_name ms n ≡ ms
with_name-same ms n e = same-if (number_of ms n) ms n e

pub new_among-append : (ms : List (List ℕ)) (xs ys : List (List ℕ × Kind)) → new_among ms (xs ++ ys) ≡ new_among ms xs ++ new_among (with_names ms xs) ys
new_among-append ms [] ys = refl
new_among-append ms (x ∷ xs) ys =
    by (is_some (number_of ms x.0)) refl (new_among-append ms xs ys) (new_among-append (with_name ms x.0) xs ys) where
      by : (b : Bool) → is_some (number_of ms x.0) ≡ b → new_among ms (xs ++ ys) ≡ new_among ms xs ++ new_among (with_names ms xs) ys →
          new_among (with_name ms x.0) (xs ++ ys) ≡ new_among (with_name ms x.0) xs ++ new_among (with_names (with_name ms x.0) xs) ys →
          (if b then new_among ms (xs ++ ys) else x ∷ new_among (with_name ms x.0) (xs ++ ys))
          ≡ (if b then new_among ms xs else x ∷ new_among (with_name ms x.0) xs) ++ new_among (with_names (with_name ms x.0) xs) ys
      by true e old new = old ∙ ap (λ (ns : List (List ℕ)). new_among ms xs ++ new_among (with_names ns xs) ys) (sym (with_name-same ms x.0 e))
      by false e old new = ap (λ (es : List (List ℕ × Kind)). x ∷ es) new

-- ---- none, one, and one list behind the other

pub Notes-none : (ms : List (List ℕ)) (ds : List DeclaredName) → Notes [] ms ms ds ds
Notes-none ms ds = record { texts = refl; found = sym (append-nil ds) }

pub Notes-then : (xs ys : List (List ℕ × Kind)) (a b c : List (List ℕ)) (u v w : List DeclaredName) → Notes xs a b u v → Notes ys b c v w → Notes (xs ++ ys) a c u w
Notes-then xs ys a b c u v w h g = record {
  texts = g.texts ∙ ap (λ (ms : List (List ℕ)). with_names ms ys) h.texts ∙ sym (with_names-append a xs ys);
  found =
      g.found
      ∙ ap (λ (ds : List DeclaredName). ds ++ map kept (new_among b ys)) h.found
      ∙ append_assoc u (map kept (new_among a xs)) (map kept (new_among b ys))
      ∙ ap (λ (ms : List (List ℕ)). u ++ (map kept (new_among a xs) ++ map kept (new_among ms ys))) h.texts
      ∙ ap (λ (ds : List DeclaredName). u ++ ds) (sym (map-append kept (new_among a xs) (new_among (with_names a xs) ys)))
      ∙ ap (λ (es : List (List ℕ × Kind)). u ++ map kept es) (sym (new_among-append a xs ys));
}

-- a name that was noted before
pub Notes-old : (ms : List (List ℕ)) (n : List ℕ) (k : Kind) (ds : List DeclaredName) → is_some (number_of ms n) ≡ true → Notes ((n, k) ∷ []) ms ms ds ds
Notes-old ms n k ds e = record {
  texts = sym (with_name-same ms n e);
  found = sym (append-nil ds) ∙ ap (λ (b : Bool). ds ++ map kept (if b then [] else (n, k) ∷ [])) (sym e);
}

-- and one that was not
pub Notes-new : (ms new : List (List ℕ)) (n : List ℕ) (k : Kind) (ds now : List DeclaredName) → is_some (number_of ms n) ≡ false → new ≡ with_name ms n →
    now ≡ ds ++ kept (n, k) ∷ [] → Notes ((n, k) ∷ []) ms new ds now
Notes-new ms new n k ds now e texts found = record {
  texts = texts;
  found = found ∙ ap (λ (b : Bool). ds ++ map kept (if b then [] else (n, k) ∷ [])) (sym e);
}
