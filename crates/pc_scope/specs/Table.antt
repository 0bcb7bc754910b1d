-- A table of names: which are chained to which, so that each is found without looking at all.
use Rattle.std.specs.Prelude.{◌≡◌, ◌≢◌, ℕ, ◌+◌, ◌*◌, ◌%◌, ◌<◌, ◌≤◌, Bool, List, [], ◌∷◌, length, map, Option, Some, None, slice_get, slice_index, if◌then◌else◌}
use Rattle.std.specs.Str.{bytes_eq}
use Rattle.pc_syntax.specs.Words.{lowered}
use Rattle.pc_scope.specs.Declarations.{Declared}
use Rattle.pc_scope.specs.Entries.{definition_of}
use Rattle.pc_scope.specs.Lookup.{Declaration}
use Rattle.pc_scope.specs.declared.decl.Decl.{Decl}
use Rattle.pc_scope.specs.declared.names.Entry.{Entry}

-- a number for the bytes of a name, by which names are told apart quickly
abbrev pub hash_after : ℕ → List ℕ → ℕ
hash_after h [] = h
hash_after h (b ∷ bs) = hash_after ((h * 257 + b) % 4294967291) bs

-- which of `size` chains a name is in, spelled in any case
unfoldable pub chain_of : List ℕ → ℕ → ℕ
chain_of name size = hash_after 0 (lowered name) % size

-- the names in chain `b` among the first `end` are reached from `head`: it is one more than the index of the last of them, or 0
pub record Reaches (names : List (List ℕ)) (size b head end : ℕ) : Type 0 where
  pub within : head ≤ end
  pub last : (j : ℕ) (name : List ℕ) → slice_get names j ≡ Some name → head ≤ j → j < end → chain_of name size ≢ b
  pub same : (i : ℕ) (name : List ℕ) → head ≡ i + 1 → slice_get names i ≡ Some name → chain_of name size ≡ b

-- each chain is reached from its head, and what stands before a name in its chain from its link; no name is there twice
pub record IsLinked (names : List (List ℕ)) (links heads : List ℕ) : Type 0 where
  pub count : length links ≡ length names
  pub some : 0 < length heads
  pub distinct : (i j : ℕ) (name : List ℕ) → slice_get names i ≡ Some name → slice_get names j ≡ Some name → i ≡ j
  pub chains : (b : ℕ) → b < length heads → Reaches names (length heads) b (slice_index heads b) (length names)
  pub before : (i : ℕ) (name : List ℕ) → slice_get names i ≡ Some name → Reaches names (length heads) (chain_of name (length heads)) (slice_index links i) i

-- the names of entries
abbrev pub names_in : List Entry → List (List ℕ)
names_in es = map (λ e. e.decl.name) es

-- the links of entries
abbrev pub links_in : List Entry → List ℕ
links_in es = map (λ e. e.link) es

-- what a declaration stands for, where it is known whether it is that of a constant or type definition
abbrev pub declared_as : Decl → Bool → Declaration
declared_as d is_definition =
    record { declared = record { name = d.name; place = d.place; definition = definition_of is_definition d.place }; owner = d.owner }

-- what entries stand for
abbrev pub declarations_in : List Entry → List Declaration
declarations_in es = map (λ e. declared_as e.decl e.is_definition) es

-- the first declaration of a name
abbrev pub first_of : List ℕ → List Declaration → Option Declaration
first_of n [] = None
first_of n (d ∷ ds) = if bytes_eq d.declared.name n then Some d else first_of n ds

-- declarations, all of one owner
abbrev pub owned : List (List ℕ) → List Declared → List Declaration
owned owner ds = map (λ d. record { declared = d; owner = owner }) ds
