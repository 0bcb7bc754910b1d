-- The sites of blocks, as they are made of what is known of the block around.
use Rattle.std.proofs.Common.{◌≡◌, ℕ, suc, ◌+◌, Bool, true, false, List, [], ◌∷◌, ◌++◌, length, refl, ap, sym, ◌∙◌, subst, append_assoc}
use Rattle.std.specs.Prelude.{Option, Some, None, not, ◌==◌, ◌&&◌, if◌then◌else◌, option_map}
use Rattle.std.specs.Option.{option_map_or}
use Rattle.std.specs.Str.{bytes_eq}
use Rattle.pc_syntax.specs.Plain.{Forest, Nil, Cons, Plain, trees_of, forest_of, kids_of}
use Rattle.pc_syntax.specs.PartsLaws.{trees_of-forest_of}
use Rattle.pc_scope.specs.Around.{Owner, Block, block_of, declared_in, first_declared, is_first}
use Rattle.pc_scope.specs.Blocks.{block_kids, kid_count, routines_among}
use Rattle.pc_scope.specs.Declarations.{Declared}
use Rattle.pc_scope.specs.Entries.{all_declared}
use Rattle.pc_scope.specs.Headings.{first_name}
use Rattle.pc_scope.specs.Lookup.{Declaration}
use Rattle.pc_scope.specs.Sites.{block_at, is_declared_at, owner_within, Opens}
use Rattle.pc_scope.specs.Table.{first_of, declarations_in, owned}
use Rattle.pc_scope.specs.Waiting.{parameters_at}
use Rattle.pc_scope.specs.WaitingIn.{Counts}
use Rattle.pc_scope.specs.declared.site.Opened.{Opened}
use Rattle.pc_scope.specs.declared.site.Site.{Site}

kids-count : (f : Forest) → length (trees_of f) ≡ kid_count f
kids-count Nil = refl
kids-count (Cons k w ns ks ts) = ap suc (kids-count ts)

pub count-kids : (p : Plain) → length (kids_of p) ≡ kid_count p.kids
unfolding kids_of
count-kids p = kids-count p.kids

owned-by : (o : List (List ℕ)) (d : Declared) (b : Bool) (x : Option Declaration) (y : Option Declared) → x ≡ option_map (λ e. record { declared = e; owner = o }) y →
    (if b then Some (record { declared = d; owner = o }) else x) ≡ option_map (λ e. record { declared = e; owner = o }) (if b then Some d else y)
owned-by o d true x y e = refl
owned-by o d false x y e = e

-- the first declaration of a name, with the owner
pub first-owned : (n : List ℕ) (o : List (List ℕ)) (ds : List Declared) → first_of n (owned o ds) ≡ option_map (λ e. record { declared = e; owner = o }) (first_declared n ds)
first-owned n o [] = refl
first-owned n o (d ∷ ds) = owned-by o d (bytes_eq d.name n) (first_of n (owned o ds)) (first_declared n ds) (first-owned n o ds)

placed-by : (o : List (List ℕ)) (p : List ℕ) (x : Option Declared) →
    option_map_or (λ (d : Declaration). bytes_eq d.declared.place p) (option_map (λ e. record { declared = e; owner = o }) x) false ≡ option_map_or (λ (d : Declared). bytes_eq d.place p) x false
placed-by o p None = refl
placed-by o p (Some d) = refl

module _ (o : Opened) (b : Block) (opens : Opens o b) (c : ℕ) where
  name-place : (o.list ++ c ∷ []) ++ 1 ∷ [] ≡ b.place ++ 4 ∷ c ∷ 1 ∷ []
  name-place =
      ap (λ l. (l ++ c ∷ []) ++ 1 ∷ []) opens.list ∙ ap (λ l. l ++ 1 ∷ []) (append_assoc b.place (4 ∷ []) (c ∷ [])) ∙ append_assoc b.place (4 ∷ c ∷ []) (1 ∷ [])

  -- whether the heading of the c-th routine declares a name
  first-here : (n : List ℕ) → is_declared_at (declarations_in o.names.entries.items) n ((o.list ++ c ∷ []) ++ 1 ∷ []) ≡ is_first b n c
  first-here n =
      ap (λ x. not (length n == 0) && option_map_or (λ (d : Declaration). bytes_eq d.declared.place ((o.list ++ c ∷ []) ++ 1 ∷ [])) x false) (opens.names n)
      ∙ ap (λ x. not (length n == 0) && x) (placed-by b.owner.key ((o.list ++ c ∷ []) ++ 1 ∷ []) (first_declared n (declared_in b)))
      ∙ ap (λ p. not (length n == 0) && option_map_or (λ (d : Declared). bytes_eq d.place p) (first_declared n (declared_in b)) false) name-place

  module _ (ts : List Plain) (are : routines_among b.kids ≡ forest_of ts) (i : ℕ) (r : Plain) (s : Site) where
    place-there : (o.list ++ (i + 1) ∷ []) ++ length (kids_of r) ∷ [] ≡ b.place ++ 4 ∷ (i + 1) ∷ kid_count r.kids ∷ []
    place-there =
        ap (λ l. (l ++ (i + 1) ∷ []) ++ length (kids_of r) ∷ []) opens.list ∙ ap (λ l. l ++ length (kids_of r) ∷ []) (append_assoc b.place (4 ∷ []) ((i + 1) ∷ []))
        ∙ append_assoc b.place (4 ∷ (i + 1) ∷ []) (length (kids_of r) ∷ []) ∙ ap (λ k. b.place ++ 4 ∷ (i + 1) ∷ k ∷ []) (count-kids r)

    -- the site of the routine's block
    pub site-is : s.owner ≡ owner_within o.owner (is_declared_at (declarations_in o.names.entries.items) (first_name r.kids) ((o.list ++ c ∷ []) ++ 1 ∷ [])) (first_name r.kids) →
        s.place ≡ (o.list ++ (i + 1) ∷ []) ++ length (kids_of r) ∷ [] → s.number ≡ length (kids_of r) → all_declared s.parameters.items ≡ parameters_at o.list c (forest_of ts) →
        block_at s (block_kids r.kids) ≡ block_of b (i + 1) r c
    site-is owner place number parameters =
        let own : s.owner ≡ owner_within b.owner (is_first b (first_name r.kids) c) (first_name r.kids) =
        owner ∙ ap (λ x. owner_within o.owner x (first_name r.kids)) (first-here (first_name r.kids)) ∙ ap (λ x. owner_within x (is_first b (first_name r.kids) c) (first_name r.kids)) opens.owner in
        let parameters-are : all_declared s.parameters.items ≡ parameters_at (b.place ++ 4 ∷ []) c (routines_among b.kids) =
        parameters ∙ ap (λ l. parameters_at l c (forest_of ts)) opens.list ∙ ap (parameters_at (b.place ++ 4 ∷ []) c) (sym are) in
        let B : Owner → List ℕ → ℕ → List Declared → Block = λ w p n ds. record { owner = w; place = p; number = n; parameters = ds; kids = block_kids r.kids } in
        ap (λ w. B w s.place s.number (all_declared s.parameters.items)) own
        ∙ ap (λ p. B (owner_within b.owner (is_first b (first_name r.kids) c) (first_name r.kids)) p s.number (all_declared s.parameters.items)) (place ∙ place-there)
        ∙ ap (λ n. B (owner_within b.owner (is_first b (first_name r.kids) c) (first_name r.kids)) (b.place ++ 4 ∷ (i + 1) ∷ kid_count r.kids ∷ []) n (all_declared s.parameters.items)) (number ∙ count-kids r)
        ∙ ap (B (owner_within b.owner (is_first b (first_name r.kids) c) (first_name r.kids)) (b.place ++ 4 ∷ (i + 1) ∷ kid_count r.kids ∷ []) (kid_count r.kids)) parameters-are

-- the numbers that count, for the routines of a block
pub counts-of : (ts : List Plain) (f : Forest) (ns : List ℕ) → forest_of ts ≡ f → Counts ts ns → Counts (trees_of f) ns
counts-of ts f ns e counts = let P : List Plain → Type 0 = λ us. Counts us ns in subst P (sym (trees_of-forest_of ts) ∙ ap trees_of e) counts
