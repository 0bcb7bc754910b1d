-- Comments (ISO 7185, 6.1.8): from `{` or `(*` to the first `}` or `*)` after it.
use Rattle.std.specs.Prelude.{ℕ, ◌+◌, Bool, false, ◌&&◌, ◌==◌, if◌then◌else◌, List, [], ◌∷◌}
use Rattle.pc_lex.specs.declared.error.LexError.TheVariants.{OpenComment}
use Rattle.pc_lex.specs.declared.front.Front.{Front}
use Rattle.pc_lex.specs.declared.front.Front.TheVariants.{Comment, Fault}

-- the text begins with this byte
abbrev pub begins_with : ℕ → List ℕ → Bool
begins_with byte [] = false
begins_with byte (b ∷ bs) = b == byte

-- the text begins with the second opening mark, `(*`
abbrev pub opens_by_star : List ℕ → Bool
opens_by_star [] = false
opens_by_star (b ∷ bs) = b == 40 && begins_with 42 bs

-- the comment whose first `n` bytes stand before this rest: it goes on to the first closing mark
unfoldable pub comment_after : ℕ → List ℕ → Front
comment_after n [] = Fault (OpenComment 1)
comment_after n (b ∷ bs) = if b == 125 then Comment (n + 1) else if b == 42 && begins_with 41 bs then Comment (n + 2) else comment_after (n + 1) bs
