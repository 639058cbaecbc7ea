-- A night for lists: the union of a list with the sectors of a list of blocks places each new block where the blocks that stay lay, and the sectors of two nights' lists joined are those of both.
-- Assumes nothing.
use Prim.Native.Nat.{ℕ, zero, suc, ◌<◌}
use mathlib.Core.Path.{◌≡◌, refl, sym, ◌∙◌, ap}
use mathlib.Core.Bool.{Bool, true, false, not, ◌&&◌, ◌||◌, true≢false}
use mathlib.Core.List.{List, [], ◌∷◌, map}
use native.Mathlib.Omega.{arith}
use lib.ListN.{length, get_or, length-map}
use Rattle.paper.proofs.Cases.{by_bool, by_lt}
use Rattle.lists.specs.Proper.{Rising, Inside}
use Rattle.lists.specs.Union.{is_in, union}
use Rattle.lists.proofs.Members.{Stands, member-stands, entry_in, member-inside, same-members}
use Rattle.lists.proofs.Unions.{in-union, rising-union, inside-union}
use Rattle.skip.specs.Skipping.{goods_before, Lies, place, after, sectors_of_blocks}
use Rattle.skip.specs.Translation.{blocks}
use Rattle.skip.proofs.Lying.{goods-mono, goods-alike, place-lies, place-rising, named-place, place-alike}
use Rattle.skip.proofs.Composition.{goods-after, place_after}
use Rattle.skip.proofs.Walks.{goods-are-blocks}

get_or_map : (f : ℕ → ℕ) (l : List ℕ) (i : ℕ) → i < length l → get_or (map f l) i 0 ≡ f (get_or l i 0)
get_or_map f [] i h = absurd (omega arith)
get_or_map f (x ∷ l) zero h = refl
get_or_map f (x ∷ l) (suc i) h = get_or_map f l i (omega arith)

module _ (n : ℕ) (a : List ℕ) (rising-a : Rising a) (inside-a : Inside n a) (d : List ℕ) (rising-d : Rising d) (inside-d : Inside (blocks n a) d) where
  -- there are as many good sectors as blocks
  goods : goods_before (is_in a) n ≡ blocks n a
  goods = goods-are-blocks n a rising-a inside-a

  block-lies : (i : ℕ) → i < length d → Lies (is_in a) n (get_or d i 0) (place (is_in a) n (get_or d i 0))
  block-lies i h = place-lies (is_in a) n (get_or d i 0) (rw goods (inside-d i h))

  pub sectors-length : length (sectors_of_blocks n a d) ≡ length d
  sectors-length = length-map d (place (is_in a) n)

  -- the sectors of rising blocks rise
  pub rising-sectors : Rising (sectors_of_blocks n a d)
  rising-sectors i h =
      let more : suc i < length d = omega (arith, sectors-length) in
      rw (get_or_map (place (is_in a) n) d i (omega arith), get_or_map (place (is_in a) n) d (suc i) more)
      (place-rising (is_in a) n (get_or d i 0) (get_or d (suc i) 0) (rising-d i more) (rw goods (inside-d (suc i) more)))

  pub inside-sectors : Inside n (sectors_of_blocks n a d)
  inside-sectors i h =
      let less : i < length d = omega (arith, sectors-length) in
      rw (get_or_map (place (is_in a) n) d i less) (block-lies i less).inside

  -- a sector of the list is the sector of a named block
  sector-named : (s : ℕ) → is_in (sectors_of_blocks n a d) s ≡ true → is_in d (goods_before (is_in a) s) ≡ true
  sector-named s e =
      let stands : Stands (sectors_of_blocks n a d) s = member-stands (sectors_of_blocks n a d) s e in
      let less : stands.place < length d = omega (arith, stands.below, sectors-length) in
      let here : place (is_in a) n (get_or d stands.place 0) ≡ s = sym (get_or_map (place (is_in a) n) d stands.place less) ∙ stands.is in
      let count : goods_before (is_in a) s ≡ get_or d stands.place 0 = rw here at (block-lies stands.place less).before in
      rw count (entry_in d stands.place less)

  member-good : (s : ℕ) → is_in (sectors_of_blocks n a d) s ≡ true → is_in a s ≡ false
  member-good s e =
      let stands : Stands (sectors_of_blocks n a d) s = member-stands (sectors_of_blocks n a d) s e in
      let less : stands.place < length d = omega (arith, stands.below, sectors-length) in
      let here : place (is_in a) n (get_or d stands.place 0) ≡ s = sym (get_or_map (place (is_in a) n) d stands.place less) ∙ stands.is in
      rw here at (block-lies stands.place less).good

  named-sector : (s : ℕ) → is_in a s ≡ false → is_in d (goods_before (is_in a) s) ≡ true → is_in (sectors_of_blocks n a d) s ≡ true
  named-sector s good e =
      let stands : Stands d (goods_before (is_in a) s) = member-stands d (goods_before (is_in a) s) e in
      let inside : s < n =
      by_lt s n
      (λ less. less)
      (λ more. absurd (omega (arith, goods-mono (is_in a) n s more, goods, member-inside (blocks n a) d (goods_before (is_in a) s) inside-d e))) in
      let here : get_or (sectors_of_blocks n a d) stands.place 0 ≡ s =
      get_or_map (place (is_in a) n) d stands.place stands.below ∙ (ap (place (is_in a) n) stands.is ∙ named-place (is_in a) n s inside good) in
      rw here at (entry_in (sectors_of_blocks n a d) stands.place (omega (arith, stands.below, sectors-length)))

  -- a sector is that of a named block exactly where it is good and names one
  pub in-sectors : (s : ℕ) → is_in (sectors_of_blocks n a d) s ≡ (not (is_in a s) && is_in d (goods_before (is_in a) s))
  in-sectors s =
      by_bool (is_in a s)
      (λ is_bad.
      rw is_bad
      (by_bool (is_in (sectors_of_blocks n a d) s) (λ member. absurd (true≢false (sym is_bad ∙ member-good s member))) (λ clear. clear)))
      (λ good.
      rw good
      (by_bool (is_in d (goods_before (is_in a) s))
      (λ named. named-sector s good named ∙ sym named)
      (λ unnamed.
      by_bool (is_in (sectors_of_blocks n a d) s)
      (λ member. absurd (true≢false (sym (sector-named s member) ∙ unnamed)))
      (λ clear. clear ∙ sym unnamed))))

  -- the union of the list and the sectors of the named blocks is the list of the night
  pub in-night : (s : ℕ) → is_in (union a (sectors_of_blocks n a d)) s ≡ after (is_in a) (is_in d) s
  in-night s = in-union a (sectors_of_blocks n a d) s ∙ (ap (λ (t : Bool). is_in a s || t) (in-sectors s) ∙ joins (is_in a s) (is_in d (goods_before (is_in a) s)))
    where
      joins : (t u : Bool) → (t || (not t && u)) ≡ (t || u)
      joins true u = refl
      joins false u = refl

  pub rising-night : Rising (union a (sectors_of_blocks n a d))
  rising-night = rising-union a (sectors_of_blocks n a d) rising-a rising-sectors

  pub inside-night : Inside n (union a (sectors_of_blocks n a d))
  inside-night = inside-union n a (sectors_of_blocks n a d) inside-a inside-sectors

  -- each new block lies where you arrive by skipping the named blocks in the old numbering and following the old map
  pub night-place : (b : ℕ) → place (is_in (union a (sectors_of_blocks n a d))) n b ≡ place (is_in a) n (place (is_in d) (blocks n a) b)
  night-place b =
      place-alike (is_in (union a (sectors_of_blocks n a d))) (after (is_in a) (is_in d)) n b (λ s h. in-night s)
      ∙ (place_after (is_in a) (is_in d) n b ∙ rw goods)

  -- as many blocks are left as stay
  pub night-blocks : blocks n (union a (sectors_of_blocks n a d)) ≡ blocks (blocks n a) d
  night-blocks =
      sym (goods-are-blocks n (union a (sectors_of_blocks n a d)) rising-night inside-night)
      ∙ (goods-alike (is_in (union a (sectors_of_blocks n a d))) (after (is_in a) (is_in d)) n (λ s h. in-night s)
      ∙ (goods-after (is_in a) (is_in d) n ∙ (ap (goods_before (is_in d)) goods ∙ goods-are-blocks (blocks n a) d rising-d inside-d)))

module _
    (n : ℕ)
    (a : List ℕ)
    (rising-a : Rising a)
    (inside-a : Inside n a)
    (d : List ℕ)
    (rising-d : Rising d)
    (inside-d : Inside (blocks n a) d)
    (e : List ℕ)
    (rising-e : Rising e)
    (inside-e : Inside (blocks n (union a (sectors_of_blocks n a d))) e)
  where
    -- the second night's list in the first night's numbers
    stays : Inside (blocks (blocks n a) d) e
    stays = rw (night-blocks n a rising-a inside-a d rising-d inside-d) at inside-e

    -- the list that joins the first night's to the second's is proper in the first night's numbers
    pub joined-rising : Rising (union d (sectors_of_blocks (blocks n a) d e))
    joined-rising = rising-night (blocks n a) d rising-d inside-d e rising-e stays

    pub joined-inside : Inside (blocks n a) (union d (sectors_of_blocks (blocks n a) d e))
    joined-inside = inside-night (blocks n a) d rising-d inside-d e rising-e stays

    -- the sectors of the joined list are those of both nights
    pub joined-sectors :
        sectors_of_blocks n a (union d (sectors_of_blocks (blocks n a) d e)) ≡ union (sectors_of_blocks n a d) (sectors_of_blocks n (union a (sectors_of_blocks n a d)) e)
    joined-sectors =
        same-members _ _
        (rising-sectors n a rising-a inside-a (union d (sectors_of_blocks (blocks n a) d e)) joined-rising joined-inside)
        (rising-union (sectors_of_blocks n a d) (sectors_of_blocks n (union a (sectors_of_blocks n a d)) e)
        (rising-sectors n a rising-a inside-a d rising-d inside-d)
        (rising-sectors n (union a (sectors_of_blocks n a d)) (rising-night n a rising-a inside-a d rising-d inside-d) (inside-night n a rising-a inside-a d rising-d inside-d) e rising-e inside-e))
        (λ s.
        in-sectors n a rising-a inside-a (union d (sectors_of_blocks (blocks n a) d e)) joined-rising joined-inside s
        ∙ (ap (λ (t : Bool). not (is_in a s) && t) (in-night (blocks n a) d rising-d inside-d e rising-e stays (goods_before (is_in a) s))
        ∙ (splits (is_in a s) (is_in d (goods_before (is_in a) s)) (is_in e (goods_before (is_in d) (goods_before (is_in a) s)))
        ∙ sym (in-union (sectors_of_blocks n a d) (sectors_of_blocks n (union a (sectors_of_blocks n a d)) e) s
        ∙ (ap (λ (t : Bool). t || is_in (sectors_of_blocks n (union a (sectors_of_blocks n a d)) e) s) (in-sectors n a rising-a inside-a d rising-d inside-d s)
        ∙ ap (λ (t : Bool). (not (is_in a s) && is_in d (goods_before (is_in a) s)) || t) (second s))))))
      where
        splits : (t u v : Bool) → (not t && (u || v)) ≡ ((not t && u) || (not (t || u) && v))
        splits true u v = refl
        splits false true v = refl
        splits false false v = refl

        second : (s : ℕ) → is_in (sectors_of_blocks n (union a (sectors_of_blocks n a d)) e) s ≡ (not (is_in a s || is_in d (goods_before (is_in a) s)) && is_in e (goods_before (is_in d) (goods_before (is_in a) s)))
        second s =
            in-sectors n (union a (sectors_of_blocks n a d)) (rising-night n a rising-a inside-a d rising-d inside-d) (inside-night n a rising-a inside-a d rising-d inside-d) e rising-e inside-e s
            ∙ (ap (λ (t : Bool). not t && is_in e (goods_before (is_in (union a (sectors_of_blocks n a d))) s)) (in-night n a rising-a inside-a d rising-d inside-d s)
            ∙ ap (λ (k : ℕ). not (is_in a s || is_in d (goods_before (is_in a) s)) && is_in e k)
            (goods-alike (is_in (union a (sectors_of_blocks n a d))) (after (is_in a) (is_in d)) s (λ t h. in-night n a rising-a inside-a d rising-d inside-d t) ∙ goods-after (is_in a) (is_in d) s))
