-- Laws of responses: one more block, and that bytes are read in one way.
use Rattle.std.proofs.Common.{◌≡◌, ℕ, ◌+◌, ◌*◌, ◌<◌, ◌≤◌, List, [], ◌∷◌, ◌++◌, length, sym, subst, ap, ap₂, ◌∙◌, refl, arith}
use Rattle.accurip_match.specs.declared.block.Block.{Block}
use Rattle.accurip_match.specs.Response.{AreBlocks, IsCut, block_at, block_end}

pub AreBlocks-push : (bytes : List ℕ) (from end : ℕ) (blocks : List Block) (block : Block) → AreBlocks bytes from end blocks → block ≡ block_at bytes end
    → AreBlocks bytes from (block_end bytes end) (blocks ++ block ∷ [])
AreBlocks-push bytes from end [] block here next =
    (next ∙ ap (block_at bytes) (sym here), ap (block_end bytes) here)
AreBlocks-push bytes from end (first ∷ later) block (head, rest) next = (head, AreBlocks-push bytes (block_end bytes from) end later block rest next)

-- no block has fewer than 13 bytes
pub blocks_room : (bytes : List ℕ) (from end : ℕ) (blocks : List Block) → AreBlocks bytes from end blocks → from + 13 * length blocks ≤ end
blocks_room bytes from end [] is = omega (arith, is)
blocks_room bytes from end (block ∷ later) is = let rest = blocks_room bytes (block_end bytes from) end later is.1 in omega (arith, rest)

-- ---- at most one reading

-- blocks that run to the end of the bytes, or to one that is cut
Ends : List ℕ → ℕ → Type 0
Ends bytes end = length bytes < block_end bytes end

not_later : (bytes : List ℕ) (from end : ℕ) (block : Block) (later : List Block) → Ends bytes from → end ≤ length bytes → AreBlocks bytes from end (block ∷ later) → ⊥
unfolding Ends
not_later bytes from end block later cut inside is =
    let room = blocks_room bytes (block_end bytes from) end later is.1 in omega (arith, room, cut, inside)

same_blocks : (bytes : List ℕ) (from end end' : ℕ) (blocks blocks' : List Block) → Ends bytes end → Ends bytes end' → end ≤ length bytes → end' ≤ length bytes
    → AreBlocks bytes from end blocks → AreBlocks bytes from end' blocks' → (end ≡ end') × (blocks ≡ blocks')
same_blocks bytes from end end' [] [] cut cut' inside inside' is also = (sym is ∙ also, refl)
same_blocks bytes from end end' [] (block ∷ later) cut cut' inside inside' is also =
    absurd (not_later bytes from end' block later (subst (Ends bytes) (sym is) cut) inside' also)
same_blocks bytes from end end' (block ∷ later) [] cut cut' inside inside' is also =
    absurd (not_later bytes from end block later (subst (Ends bytes) (sym also) cut') inside is)
same_blocks bytes from end end' (block ∷ later) (block' ∷ later') cut cut' inside inside' is also =
    let rest = same_blocks bytes (block_end bytes from) end end' later later' cut cut' inside inside' is.1 also.1 in
    (rest.0, ap₂ (λ (b : Block) (l : List Block). b ∷ l) (is.0 ∙ sym also.0) rest.1)

ends_whole : (bytes : List ℕ) → Ends bytes (length bytes)
unfolding Ends
ends_whole bytes = omega arith

ends_cut : (bytes : List ℕ) (at : ℕ) → IsCut bytes at → Ends bytes at
unfolding Ends
ends_cut bytes at cut = cut.1

module _ (bytes : List ℕ) where
  -- the blocks of a response are these alone
  pub one_response : (blocks blocks' : List Block) → AreBlocks bytes 0 (length bytes) blocks → AreBlocks bytes 0 (length bytes) blocks' → blocks ≡ blocks'
  one_response blocks blocks' is also =
      (same_blocks bytes 0 (length bytes) (length bytes) blocks blocks' (ends_whole bytes) (ends_whole bytes) (omega arith) (omega arith) is also).1

  -- none has a place at which it is cut, and it is cut at one place alone
  pub none_cut : (blocks blocks' : List Block) (at : ℕ) → AreBlocks bytes 0 (length bytes) blocks → AreBlocks bytes 0 at blocks' → IsCut bytes at → ⊥
  none_cut blocks blocks' at is also cut =
      let same = (same_blocks bytes 0 (length bytes) at blocks blocks' (ends_whole bytes) (ends_cut bytes at cut) (omega arith) (omega (arith, cut.0)) is also).0 in
      omega (arith, cut.0, same)

  pub one_cut : (blocks blocks' : List Block) (at at' : ℕ) → AreBlocks bytes 0 at blocks → AreBlocks bytes 0 at' blocks' → IsCut bytes at → IsCut bytes at' → at ≡ at'
  one_cut blocks blocks' at at' is also cut cut' =
      (same_blocks bytes 0 at at' blocks blocks' (ends_cut bytes at cut) (ends_cut bytes at' cut') (omega (arith, cut.0)) (omega (arith, cut'.0)) is also).0
