-- The text of the view `tree`: a line for each node.
use Rattle.std.specs.Prelude.{ℕ, ◌+◌, ◌++◌, codes, List, [], ◌∷◌}
use Rattle.std.specs.Fmt.{decimal}
use Rattle.pc_syntax.specs.Plain.{Forest, Nil, Cons, Plain}
use Rattle.pc_syntax.specs.Templates.{kind_name}
use Rattle.pc_views.specs.Limit.{limited}

-- the path of a kid: the path of its parent, which is empty for the root, a slash and the kid's number
abbrev pub kid_path : List ℕ → ℕ → List ℕ
kid_path path number = path ++ codes "/" ++ decimal number

-- a path as it is shown: that of the root as a slash
abbrev pub shown_path : List ℕ → List ℕ
shown_path [] = codes "/"
shown_path (b ∷ bs) = b ∷ bs

-- a word as it is shown: a space before it, where it isn't empty
abbrev pub shown_word : List ℕ → List ℕ
shown_word [] = []
shown_word (b ∷ bs) = codes " " ++ b ∷ bs

-- the line of a node: its path, a space, the name of its kind, and its word
abbrev pub line : List ℕ → List ℕ → List ℕ → List ℕ
line path name word = shown_path path ++ codes " " ++ name ++ shown_word word ++ codes "\n"

-- the lines of kids of the node with this path, the first of which has this number: each kid, what is below it, the kids after it
unfoldable pub kid_lines : List ℕ → ℕ → Forest → List ℕ
kid_lines path number Nil = []
kid_lines path number (Cons kind word notes kids more) =
    line (kid_path path number) (kind_name kind) word ++ kid_lines (kid_path path number) 1 kids ++ kid_lines path (number + 1) more

-- the lines of the node with this path and of all nodes below it
abbrev pub lines_of : List ℕ → Plain → List ℕ
lines_of path tree = line path (kind_name tree.kind) tree.word ++ kid_lines path 1 tree.kids

-- the text of the view
unfoldable pub tree_view : Plain → List ℕ
tree_view tree = limited (lines_of [] tree)
