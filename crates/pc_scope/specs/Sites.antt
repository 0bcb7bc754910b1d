-- Where the blocks stand that code goes through, and what it knows of one whose routines it goes through.
use Rattle.std.specs.Prelude.{◌≡◌, ℕ, Bool, true, false, not, ◌&&◌, ◌==◌, if◌then◌else◌, List, [], ◌∷◌, ◌++◌, length}
use Rattle.std.specs.Option.{option_map_or}
use Rattle.std.specs.Str.{bytes_eq}
use Rattle.pc_syntax.specs.Plain.{Forest, trees_of}
use Rattle.pc_scope.specs.Around.{Owner, Block}
use Rattle.pc_scope.specs.Blocks.{routines_among}
use Rattle.pc_scope.specs.Entries.{all_declared}
use Rattle.pc_scope.specs.Lookup.{Declaration, declared_here}
use Rattle.pc_scope.specs.Table.{first_of, declarations_in}
use Rattle.pc_scope.specs.WaitingIn.{Counts}
use Rattle.pc_scope.specs.declared.site.Site.{Site}
use Rattle.pc_scope.specs.declared.site.Opened.{Opened}

-- whether the first declaration of a name is at a place; nothing is declared by a hole
abbrev pub is_declared_at : List Declaration → List ℕ → List ℕ → Bool
is_declared_at ds n place = not (length n == 0) && option_map_or (λ d. bytes_eq d.declared.place place) (first_of n ds) false

-- the owner of a routine with a name in a block, from whether the first declaration of the name is in the heading that counts
abbrev pub owner_within : Owner → Bool → List ℕ → Owner
owner_within o is_first n = if o.is_own && is_first then record { key = o.key ++ n ∷ []; is_own = true } else record { key = o.key; is_own = false }

-- the block that stands at a site, with these kids
abbrev pub block_at : Site → Forest → Block
block_at s ks = record { owner = s.owner; place = s.place; number = s.number; parameters = all_declared s.parameters.items; kids = ks }

-- what is known of a block when its routines are gone through
pub record Opens (o : Opened) (b : Block) : Type 0 where
  pub owner : o.owner ≡ b.owner
  pub list : o.list ≡ b.place ++ 4 ∷ []
  pub names : (n : List ℕ) → first_of n (declarations_in o.names.entries.items) ≡ declared_here n b
  pub numbers : Counts (trees_of (routines_among b.kids)) o.numbers.items
