-- From a search that keeps its plan in memory, as the code does, to `dfs`. Assumes nothing.
use mathlib.Core.Path.{◌≡◌, refl, sym, ◌∙◌, ap, subst}
use mathlib.Core.Bool.{Bool, true, false, cond}
use mathlib.Core.List.{List, [], ◌∷◌, ◌++◌, map, Memᴰ}
use Prim.Native.Nat.{ℕ, zero, suc, ◌+◌, ◌<◌}
use native.Mathlib.Omega.{arith}
use lib.Dec.{leb, ltb}
use borrow.Author.Tests.{lt-ltb, le-ltb}
use Rattle.tries.specs.Tries.{Answer, found, absent, stopped, Hereditary, answer}
use Rattle.tries.specs.Dfs.{thence, run, deeper, attempt, dfs}
use Rattle.tries.specs.Placements.{upward, grid}
use Rattle.tries.proofs.Laws.{dfs_answers}

-- where the search stands: the outcome so far and the memory that holds the plan
pub record State (M : Type 0) : Type 0 where
  pub is_found : Bool
  pub is_stopped : Bool
  pub made : ℕ
  pub mem : M

module _ {M : Type 0} where
  abbrev pub fresh : ℕ → M → State M
  fresh k m = record { is_found = false; is_stopped = false; made = k; mem = m }

  -- f at each of a list, until the state is an end
  unfoldable pub run_s : {A : Type 0} → (A → State M → State M) → List A → State M → State M
  run_s f [] o = o
  run_s f (a ∷ rest) o = cond o.is_found o (cond o.is_stopped o (run_s f rest (f a o)))

  -- f at i, i + 1, .., n of them, until the state is an end: a loop of the code
  unfoldable pub loop : (ℕ → State M → State M) → ℕ → ℕ → State M → State M
  loop f zero i o = o
  loop f (suc n) i o = cond o.is_found o (cond o.is_stopped o (loop f n (i + 1) (f i o)))

  run_s_found : {A : Type 0} (f : A → State M → State M) (cs : List A) (o : State M) → o.is_found ≡ true → run_s f cs o ≡ o
  unfolding run_s
  run_s_found f [] o e = refl
  run_s_found f (a ∷ cs) o e = rw e

  run_s_stopped : {A : Type 0} (f : A → State M → State M) (cs : List A) (o : State M) → o.is_stopped ≡ true → run_s f cs o ≡ o
  unfolding run_s
  run_s_stopped f [] o e = refl
  run_s_stopped f (a ∷ cs) o e = go o.is_found
    where
      go : (c : Bool) → cond c o (cond o.is_stopped o (run_s f cs (f a o))) ≡ o
      go true = refl
      go false = rw e

  run_s_append : {A : Type 0} (f : A → State M → State M) (xs ys : List A) (o : State M) → run_s f (xs ++ ys) o ≡ run_s f ys (run_s f xs o)
  unfolding run_s
  run_s_append f [] ys o = refl
  run_s_append f (x ∷ xs) ys o = go o.is_found o.is_stopped refl refl (run_s_append f xs ys (f x o))
    where
      go : (c d : Bool) → o.is_found ≡ c → o.is_stopped ≡ d → run_s f (xs ++ ys) (f x o) ≡ run_s f ys (run_s f xs (f x o))
          → cond c o (cond d o (run_s f (xs ++ ys) (f x o))) ≡ run_s f ys (cond c o (cond d o (run_s f xs (f x o))))
      go true d p q e = sym (run_s_found f ys o p)
      go false true p q e = sym (run_s_stopped f ys o q)
      go false false p q e = e

  row_is : (f : ℕ × ℕ → State M → State M) (m w i : ℕ) (o : State M) → loop (λ t. f (m, t)) w i o ≡ run_s f (map {B = ℕ × ℕ} (λ t. (m, t)) (upward w i)) o
  unfolding loop run_s upward
  row_is f m zero i o = refl
  row_is f m (suc w) i o = ap (λ x. cond o.is_found o (cond o.is_stopped o x)) (row_is f m w (i + 1) (f (m, i) o))

  -- the code's two loops are one run over the pairs
  pub grid_is : (f : ℕ × ℕ → State M → State M) (w n i : ℕ) (o : State M) → loop (λ m. loop (λ t. f (m, t)) w 0) n i o ≡ run_s f (grid w n i) o
  unfolding loop grid
  grid_is f w zero i o = (unfold run_s in refl)
  grid_is f w (suc n) i o = go o.is_found o.is_stopped refl refl (grid_is f w n (i + 1) (loop (λ t. f (i, t)) w 0 o))
    where
      row : List (ℕ × ℕ)
      row = map {B = ℕ × ℕ} (λ t. (i, t)) (upward w 0)

      go : (c d : Bool) → o.is_found ≡ c → o.is_stopped ≡ d → loop (λ m. loop (λ t. f (m, t)) w 0) n (i + 1) (loop (λ t. f (i, t)) w 0 o) ≡ run_s f (grid w n (i + 1)) (loop (λ t. f (i, t)) w 0 o)
          → cond c o (cond d o (loop (λ m. loop (λ t. f (m, t)) w 0) n (i + 1) (loop (λ t. f (i, t)) w 0 o))) ≡ run_s f (row ++ grid w n (i + 1)) o
      go true d p q e = sym (run_s_found f (row ++ grid w n (i + 1)) o p)
      go false true p q e = sym (run_s_stopped f (row ++ grid w n (i + 1)) o q)
      go false false p q e = e ∙ (ap (run_s f (grid w n (i + 1))) (row_is f i w 0 o) ∙ sym (run_s_append f row (grid w n (i + 1)) o))

module _ {A M : Type 0} where
  -- what is asked of the memory of a plan of n placements: `put j a` writes placement j, `read j` gives the first j placements
  pub record Keeps (n : ℕ) (put : ℕ → A → M → M) (read : ℕ → M → List A) (Fits : M → Type 0) : Type 0 where
    pub fits : (j : ℕ) (a : A) (m : M) → j < n → Fits m → Fits (put j a m)
    pub none : (m : M) → read 0 m ≡ []
    pub next : (j : ℕ) (a : A) (m : M) → j < n → Fits m → read (j + 1) (put j a m) ≡ read j m ++ (a ∷ [])
    pub same : (j : ℕ) (a : A) (m : M) → j < n → Fits m → read j (put j a m) ≡ read j m
    pub down : (j : ℕ) (m m' : M) → read (j + 1) m ≡ read (j + 1) m' → read j m ≡ read j m'

  -- what is asked of the code's test: after sound placements it says whether the plan with one more is sound
  pub record Judges (n : ℕ) (choices : ℕ → List A) (put : ℕ → A → M → M) (read : ℕ → M → List A) (Fits : M → Type 0) (judge : M → ℕ → Bool) (sound : List A → Bool) : Type 0 where
    pub same : (j : ℕ) (a : A) (m : M) → j < n → Memᴰ a (choices j) → Fits m → sound (read j m) ≡ true → judge (put j a m) j ≡ sound (read (j + 1) (put j a m))

  module _ (n : ℕ) (put : ℕ → A → M → M) where
    -- one try of the placement a for partition j; `judge` is the code's test, `next` the search over what is left
    unfoldable pub attempt_s : (M → ℕ → Bool) → ℕ → (State M → State M) → ℕ → A → State M → State M
    attempt_s judge budget next j a o =
        cond (leb budget o.made) (record { is_found = false; is_stopped = true; made = o.made; mem = o.mem })
        (cond (judge (put j a o.mem) j)
        (cond (ltb (j + 1) n) (next (fresh (o.made + 1) (put j a o.mem)))
        (record { is_found = true; is_stopped = false; made = o.made + 1; mem = put j a o.mem }))
        (fresh (o.made + 1) (put j a o.mem)))

    -- the search from partition j on, with r partitions left
    unfoldable pub search_s : (ℕ → List A) → (M → ℕ → Bool) → ℕ → ℕ → ℕ → State M → State M
    search_s choices judge budget zero j o = o
    search_s choices judge budget (suc r) j o = run_s (attempt_s judge budget (search_s choices judge budget r (j + 1)) j) (choices j) o

  -- the answer that a state stands for
  unfoldable pub view : ℕ → (ℕ → M → List A) → State M → Answer A
  view n read o = cond o.is_found (found (read n o.mem) o.made) (cond o.is_stopped (stopped o.made) (absent o.made))

  module _ (n : ℕ) (put : ℕ → A → M → M) (read : ℕ → M → List A) (Fits : M → Type 0) (c : Keeps n put read Fits) where
    -- a state that stands for an answer, with the first j placements still those of w
    pub record Shows (j : ℕ) (w : List A) (o : State M) (x : Answer A) : Type 0 where
      pub shown : view n read o ≡ x
      pub fits : Fits o.mem
      pub kept : read j o.mem ≡ w

    still : (o : State M) → o.is_found ≡ false → o.is_stopped ≡ false → o ≡ fresh o.made o.mem
    still o p q = λ i. record { is_found = p i; is_stopped = q i; made = o.made; mem = o.mem }

    run_s_shows : (j : ℕ) (w : List A) (f : A → State M → State M) (g : A → ℕ → Answer A)
        → (cs : List A) → ((a : A) → Memᴰ a cs → (k : ℕ) (m : M) → Fits m → read j m ≡ w → Shows j w (f a (fresh k m)) (g a k))
        → (k : ℕ) (m : M) → Fits m → read j m ≡ w → Shows j w (run_s f cs (fresh k m)) (run g cs k)
    unfolding run_s run
    run_s_shows j w f g [] h k m i e = record { shown = (unfold view in refl); fits = i; kept = e }
    run_s_shows j w f g (a ∷ cs) h k m i e = go (f a (fresh k m)) (g a k) (h a (Memᴰ.head refl) k m i e) (run_s_shows j w f g cs (λ a m. h a (Memᴰ.tail m)))
      where
        go : (o : State M) (x : Answer A) → Shows j w o x → ((k : ℕ) (m : M) → Fits m → read j m ≡ w → Shows j w (run_s f cs (fresh k m)) (run g cs k))
            → Shows j w (run_s f cs o) (thence x (run g cs))
        go o x s t = rw (← s.shown) (cases o.is_found o.is_stopped refl refl)
          where
            cases : (c d : Bool) → o.is_found ≡ c → o.is_stopped ≡ d → Shows j w (run_s f cs o) (thence (view n read o) (run g cs))
            cases true d p q = rw (run_s_found f cs o p) (record { shown = (unfold view thence in rw p); fits = s.fits; kept = s.kept })
            cases false true p q = rw (run_s_stopped f cs o q) (record { shown = (unfold view thence in rw (p, q)); fits = s.fits; kept = s.kept })
            cases false false p q =
                let u = t o.made o.mem s.fits s.kept in
                let last : thence (view n read o) (run g cs) ≡ run g cs o.made = (unfold view thence in rw (p, q)) in
                rw last (subst (λ y. Shows j w (run_s f cs y) (run g cs o.made)) (sym (still o p q)) u)

    -- one try in memory is one try of `dfs`
    attempt_s_shows : (judge : M → ℕ → Bool) (sound : List A → Bool) (b r j : ℕ) (next_s : State M → State M) (next : List A → ℕ → Answer A) → j + suc r ≡ n
        → ((v : List A) (k : ℕ) (m : M) → Fits m → read (j + 1) m ≡ v → sound v ≡ true → Shows (j + 1) v (next_s (fresh k m)) (next v k))
        → (w : List A) (a : A) (k : ℕ) (m : M) → Fits m → read j m ≡ w → judge (put j a m) j ≡ sound (w ++ (a ∷ []))
        → Shows j w (attempt_s n put judge b next_s j a (fresh k m)) (attempt sound b (deeper r next) w a k)
    unfolding attempt_s attempt view deeper
    attempt_s_shows judge sound b r j next_s next o below w a k m i e law = rw law (go (leb b k) (sound (w ++ (a ∷ []))) refl)
      where
        v : List A
        v = w ++ (a ∷ [])

        reads : read (j + 1) (put j a m) ≡ w ++ (a ∷ [])
        reads = c.next j a m (omega arith) i ∙ ap (λ u. u ++ (a ∷ [])) e

        fit : Fits (put j a m)
        fit = c.fits j a m (omega arith) i

        deep : (r : ℕ) → j + suc r ≡ n → Shows (j + 1) v (next_s (fresh (k + 1) (put j a m))) (next v (k + 1))
            → Shows j w (cond (ltb (j + 1) n) (next_s (fresh (k + 1) (put j a m))) (record { is_found = true; is_stopped = false; made = k + 1; mem = put j a m })) (deeper r next v (k + 1))
        deep zero o t = rw (le-ltb (j + 1) n (omega arith)) (record { shown = (let whole : read n (put j a m) ≡ v = rw (← o) reads in ap (λ u. found u (k + 1)) whole); fits = fit; kept = c.same j a m (omega arith) i ∙ e })
        deep (suc r) o t = rw (lt-ltb (j + 1) n (omega arith)) (record { shown = t.shown; fits = t.fits; kept = c.down j _ _ (t.kept ∙ sym reads) ∙ (c.same j a m (omega arith) i ∙ e) })

        go : (p q : Bool) → sound (w ++ (a ∷ [])) ≡ q → Shows j w
            (cond p (record { is_found = false; is_stopped = true; made = k; mem = m }) (cond q (cond (ltb (j + 1) n) (next_s (fresh (k + 1) (put j a m))) (record { is_found = true; is_stopped = false; made = k + 1; mem = put j a m })) (fresh (k + 1) (put j a m))))
            (cond p (stopped k) (cond q (deeper r next (w ++ (a ∷ [])) (k + 1)) (absent (k + 1))))
        go true q s = record { shown = refl; fits = i; kept = e }
        go false true s = deep r o (below v (k + 1) (put j a m) fit reads s)
        go false false s = record { shown = refl; fits = fit; kept = c.same j a m (omega arith) i ∙ e }

    module _ (choices : ℕ → List A) (judge : M → ℕ → Bool) (sound : List A → Bool) (law : Judges n choices put read Fits judge sound) (b : ℕ) where
      -- the search in memory stands for `dfs`, from any partition on, and leaves the placements before it alone
      pub search_s_shows : (r j : ℕ) → j + r ≡ n → (w : List A) → sound w ≡ true → (k : ℕ) (m : M) → Fits m → read j m ≡ w
          → Shows j w (search_s n put choices judge b r j (fresh k m)) (dfs choices sound b r j w k)
      unfolding search_s dfs
      search_s_shows zero j o w s k m i e = record { shown = (unfold view in refl); fits = i; kept = e }
      search_s_shows (suc r) j o w s k m i e =
          run_s_shows j w (attempt_s n put judge b (search_s n put choices judge b r (j + 1)) j) (attempt sound b (deeper r (dfs choices sound b r (j + 1))) w)
          (choices j)
          (λ a q k m i e. attempt_s_shows judge sound b r j (search_s n put choices judge b r (j + 1)) (dfs choices sound b r (j + 1)) o
          (λ v k m i e t. search_s_shows r (j + 1) (omega arith) v t k m i e) w a k m i e
          (law.same j a m (omega arith) q i (rw e s) ∙ ap sound (c.next j a m (omega arith) i ∙ ap (λ u. u ++ (a ∷ [])) e)))
          k m i e

      -- the whole search in memory gives the answer
      pub search_answers : Hereditary sound → (m : M) → Fits m → view n read (search_s n put choices judge b n 0 (fresh 0 m)) ≡ answer n choices sound b
      search_answers h m i = (search_s_shows n 0 (omega arith) [] h.empty 0 m i (c.none m)).shown ∙ dfs_answers n choices sound h b
