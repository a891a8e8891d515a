-- What the answer means: the budget's part in it, and which plan is found. Assumes nothing.
use mathlib.Core.Path.{◌≡◌, refl, sym, ◌∙◌, ap}
use mathlib.Core.Bool.{Bool, true, false, cond, true≢false, and-eq-true_iff}
use mathlib.Core.List.Memᴰ
use mathlib.Core.List.{List, [], ◌∷◌, ◌++◌, drop_last, drop_last-prefix, Memᴰ}
use mathlib.Core.Logic.{◌⊎◌, inl, inr, ◌↔◌}
use mathlib.Core.Option.{Option, some, none}
use Prim.Native.Nat.{ℕ, zero, suc, ◌+◌, ◌≤◌, ◌<◌}
use native.Mathlib.Omega.{arith}
use lib.ListN.{length}
use lib.Dec.{leb, eqb}
use borrow.Author.Tests.{leb-true, leb-false, eqb-true, le-leb, lt-leb, eq-eqb}
use Rattle.tries.specs.Tries.{found, absent, stopped, starting, words_from, keep, first_of, up_to, ending, answer_of, words, is_try, tries, accepted, first, needed, answer, Hereditary}
use Rattle.tries.proofs.Laws.{try_append, front, up_to_some}
use Rattle.tries.specs.Order.{Over, Precedes, InOrder}
use Rattle.tries.proofs.Words.{words_only, words_all, words_ordered}

module _ {A : Type 0} where
  -- what is kept: what passes, in the order that it had
  keep_mem : (p : List A → Bool) (ws : List (List A)) (w : List A) → Memᴰ w (keep p ws) → Memᴰ w ws × (p w ≡ true)
  unfolding keep
  keep_mem p [] w m = absurd (Memᴰ.not-nil m)
  keep_mem p (v ∷ ws) w m = go (p v) refl (keep_mem p ws w) m
    where
      now : p v ≡ true → (Memᴰ w (keep p ws) → Memᴰ w ws × (p w ≡ true)) → (w ≡ v) ⊎ Memᴰ w (keep p ws) → Memᴰ w (v ∷ ws) × (p w ≡ true)
      now q f (inl e) = (Memᴰ.head e, rw e q)
      now q f (inr m) = let t = f m in (Memᴰ.tail t.0, t.1)

      go : (c : Bool) → p v ≡ c → (Memᴰ w (keep p ws) → Memᴰ w ws × (p w ≡ true)) → Memᴰ w (cond c (v ∷ keep p ws) (keep p ws)) → Memᴰ w (v ∷ ws) × (p w ≡ true)
      go true q f m = now q f (Memᴰ.cases_cons m)
      go false q f m = let t = f m in (Memᴰ.tail t.0, t.1)

  mem_keep : (p : List A → Bool) (ws : List (List A)) (w : List A) → Memᴰ w ws → p w ≡ true → Memᴰ w (keep p ws)
  unfolding keep
  mem_keep p [] w m e = absurd (Memᴰ.not-nil m)
  mem_keep p (v ∷ ws) w m e = go (p v) refl (λ m. mem_keep p ws w m e) (Memᴰ.cases_cons m)
    where
      go : (c : Bool) → p v ≡ c → (Memᴰ w ws → Memᴰ w (keep p ws)) → (w ≡ v) ⊎ Memᴰ w ws → Memᴰ w (cond c (v ∷ keep p ws) (keep p ws))
      go true q f (inl m) = Memᴰ.head m
      go true q f (inr m) = Memᴰ.tail (f m)
      go false q f (inl m) = absurd (true≢false (sym e ∙ (ap p m ∙ q)))
      go false q f (inr m) = f m

  keep_ordered : (R : List A → List A → Type 0) (p : List A → Bool) (ws : List (List A)) → InOrder R ws → InOrder R (keep p ws)
  unfolding keep
  keep_ordered R p [] h = tt
  keep_ordered R p (v ∷ ws) h = go (p v) (keep_ordered R p ws h.1)
    where
      go : (c : Bool) → InOrder R (keep p ws) → InOrder R (cond c (v ∷ keep p ws) (keep p ws))
      go true t = (λ u m. h.0 u (keep_mem p ws u m).0, t)
      go false t = t

  -- the list of tries holds exactly the tries, in dictionary order
  module _ (n : ℕ) (choices : ℕ → List A) (sound : List A → Bool) where
    pub tries_iff : (w : List A) → Memᴰ w (tries n choices sound) ↔ (Over choices 0 w × (1 ≤ length w) × (length w ≤ n) × (sound (drop_last w) ≡ true))
    unfolding tries words is_try
    tries_iff w = (
      λ m. let t = keep_mem (is_try sound) (words n choices) w m in
          let o = words_only choices n 0 w t.0 in
          (o.2, o.0, o.1, ((and-eq-true_iff (leb 1 (length w)) (sound (drop_last w))).0 t.1).1),
      λ t. mem_keep (is_try sound) (words n choices) w (words_all choices n 0 w t.1 t.2 t.0) (rw (le-leb 1 (length w) t.1) t.3),
    )

    pub tries_ordered : InOrder (Precedes choices 0) (tries n choices sound)
    unfolding tries words
    tries_ordered = keep_ordered (Precedes choices 0) (is_try sound) (words n choices) (words_ordered choices n 0)

  -- the three answers, and when each is given
  answer_of_found : (f : Option (List A)) (u b k : ℕ) (w : List A) → answer_of f u b ≡ found w k → (f ≡ some w) × (u ≡ k) × (u ≤ b)
  unfolding answer_of
  answer_of_found f u b k w = go (leb u b) f refl
    where
      go : (c : Bool) (f : Option (List A)) → leb u b ≡ c → cond c (ending f u) (stopped b) ≡ found w k → (f ≡ some w) × (u ≡ k) × (u ≤ b)
      go true (some v) q e = (cc, cc, leb-true u b q)
      go true none q e = let z : ◌≡◌ {A = ℕ} 0 1 = cc in absurd (omega arith)
      go false f q e = let z : ◌≡◌ {A = ℕ} 0 1 = cc in absurd (omega arith)

  answer_of_absent : (f : Option (List A)) (u b k : ℕ) → answer_of f u b ≡ absent k → (f ≡ none) × (u ≡ k) × (u ≤ b)
  unfolding answer_of
  answer_of_absent f u b k = go (leb u b) f refl
    where
      go : (c : Bool) (f : Option (List A)) → leb u b ≡ c → cond c (ending f u) (stopped b) ≡ absent k → (f ≡ none) × (u ≡ k) × (u ≤ b)
      go true (some v) q e = let z : ◌≡◌ {A = ℕ} 0 1 = cc in absurd (omega arith)
      go true none q e = (cc, cc, leb-true u b q)
      go false f q e = let z : ◌≡◌ {A = ℕ} 0 1 = cc in absurd (omega arith)

  answer_of_stopped : (f : Option (List A)) (u b k : ℕ) → answer_of f u b ≡ stopped k → (b ≡ k) × (b < u)
  unfolding answer_of
  answer_of_stopped f u b k = go (leb u b) f refl
    where
      go : (c : Bool) (f : Option (List A)) → leb u b ≡ c → cond c (ending f u) (stopped b) ≡ stopped k → (b ≡ k) × (b < u)
      go true (some v) q e = let z : ◌≡◌ {A = ℕ} 0 1 = cc in absurd (omega arith)
      go true none q e = let z : ◌≡◌ {A = ℕ} 0 1 = cc in absurd (omega arith)
      go false f q e = (cc, leb-false u b q)

  module _ (n : ℕ) (choices : ℕ → List A) (sound : List A → Bool) where
    pub found_iff : (b k : ℕ) (w : List A) → (answer n choices sound b ≡ found w k) ↔ ((first n choices sound ≡ some w) × (needed n choices sound ≡ k) × (needed n choices sound ≤ b))
    unfolding answer answer_of
    found_iff b k w = (answer_of_found (first n choices sound) (needed n choices sound) b k w, λ h. rw (le-leb (needed n choices sound) b h.2, h.0, h.1))

    pub absent_iff : (b k : ℕ) → (answer n choices sound b ≡ absent k) ↔ ((first n choices sound ≡ none) × (needed n choices sound ≡ k) × (needed n choices sound ≤ b))
    unfolding answer answer_of
    absent_iff b k = (answer_of_absent (first n choices sound) (needed n choices sound) b k, λ h. rw (le-leb (needed n choices sound) b h.2, h.0, h.1))

    pub stopped_iff : (b k : ℕ) → (answer n choices sound b ≡ stopped k) ↔ ((b ≡ k) × (b < needed n choices sound))
    unfolding answer answer_of
    stopped_iff b k = (answer_of_stopped (first n choices sound) (needed n choices sound) b k, λ h. rw (lt-leb (needed n choices sound) b h.1) (ap stopped h.0))

    -- a larger budget changes neither a plan found nor that there is none
    pub larger_found : (b c k : ℕ) (w : List A) → b ≤ c → answer n choices sound b ≡ found w k → answer n choices sound c ≡ found w k
    larger_found b c k w l e = let h = (found_iff b k w).0 e in (found_iff c k w).1 (h.0, h.1, omega arith)

    pub larger_absent : (b c k : ℕ) → b ≤ c → answer n choices sound b ≡ absent k → answer n choices sound c ≡ absent k
    larger_absent b c k l e = let h = (absent_iff b k).0 e in (absent_iff c k).1 (h.0, h.1, omega arith)

  -- w is the first of the words that passes, and `count` of them stand up to and including it
  pub record FirstIn (p : List A → Bool) (ws : List (List A)) (w : List A) (count : ℕ) : Type 0 where
    pub before : List (List A)
    pub after : List (List A)
    pub split : ws ≡ before ++ (w ∷ after)
    pub passes : p w ≡ true
    pub fail : (u : List A) → Memᴰ u before → p u ≡ false
    pub number : count ≡ length before + 1

  first_of_some : (p : List A → Bool) (ws : List (List A)) (w : List A) → first_of p ws ≡ some w → FirstIn p ws w (up_to p ws)
  unfolding first_of up_to
  first_of_some p [] w e = let z : ◌≡◌ {A = ℕ} 0 1 = cc in absurd (omega arith)
  first_of_some p (v ∷ ws) w e = go (p v) refl (first_of_some p ws w) e
    where
      fails : p v ≡ false → (us : List (List A)) → ((u : List A) → Memᴰ u us → p u ≡ false) → (u : List A) → (u ≡ v) ⊎ Memᴰ u us → p u ≡ false
      fails q us f u (inl e) = rw e q
      fails q us f u (inr m) = f u m

      go : (c : Bool) → p v ≡ c → (first_of p ws ≡ some w → FirstIn p ws w (up_to p ws))
          → cond c (some v) (first_of p ws) ≡ some w → FirstIn p (v ∷ ws) w (cond c 1 (suc (up_to p ws)))
      go true q f e = let same : v ≡ w = cc in record {
        before = [];
        after = ws;
        split = ap {B = List (List A)} (λ x. x ∷ ws) same;
        passes = rw same at q;
        fail = λ u m. absurd (Memᴰ.not-nil m);
        number = omega arith;
      }
      go false q f e = let t = f e in record {
        before = v ∷ t.before;
        after = t.after;
        split = ap {B = List (List A)} (λ x. v ∷ x) t.split;
        passes = t.passes;
        fail = λ u m. fails q t.before t.fail u (Memᴰ.cases_cons m);
        number = omega (arith, t.number);
      }

  first_of_none : (p : List A → Bool) (ws : List (List A)) → first_of p ws ≡ none → ((u : List A) → Memᴰ u ws → p u ≡ false) × (up_to p ws ≡ length ws)
  unfolding first_of up_to
  first_of_none p [] e = (λ u m. absurd (Memᴰ.not-nil m), refl)
  first_of_none p (v ∷ ws) e = go (p v) refl (first_of_none p ws) e
    where
      fails : p v ≡ false → ((u : List A) → Memᴰ u ws → p u ≡ false) → (u : List A) → (u ≡ v) ⊎ Memᴰ u ws → p u ≡ false
      fails q f u (inl e) = rw e q
      fails q f u (inr m) = f u m

      go : (c : Bool) → p v ≡ c → (first_of p ws ≡ none → ((u : List A) → Memᴰ u ws → p u ≡ false) × (up_to p ws ≡ length ws))
          → cond c (some v) (first_of p ws) ≡ none → ((u : List A) → Memᴰ u (v ∷ ws) → p u ≡ false) × (cond c 1 (suc (up_to p ws)) ≡ suc (length ws))
      go true q f e = let z : ◌≡◌ {A = ℕ} 0 1 = cc in absurd (omega arith)
      go false q f e = let t = f e in (λ u m. fails q t.0 u (Memᴰ.cases_cons m), ap suc t.1)

  none_first_of : (p : List A → Bool) (ws : List (List A)) → ((u : List A) → Memᴰ u ws → p u ≡ false) → first_of p ws ≡ none
  unfolding first_of
  none_first_of p [] f = refl
  none_first_of p (v ∷ ws) f = rw (f v (Memᴰ.head refl)) (none_first_of p ws (λ u m. f u (Memᴰ.tail m)))

  -- to leave out words that do not pass changes nothing
  first_of_keep : (p q : List A → Bool) → ((u : List A) → p u ≡ true → q u ≡ true) → (ws : List (List A)) → first_of p (keep q ws) ≡ first_of p ws
  unfolding first_of keep
  first_of_keep p q f [] = refl
  first_of_keep p q f (v ∷ ws) = go (p v) (q v) refl refl (first_of_keep p q f ws)
    where
      go : (c d : Bool) → p v ≡ c → q v ≡ d → first_of p (keep q ws) ≡ first_of p ws → first_of p (cond d (v ∷ keep q ws) (keep q ws)) ≡ cond c (some v) (first_of p ws)
      go true true a b e = rw a
      go true false a b e = absurd (true≢false (sym (f v a) ∙ b))
      go false true a b e = rw a e
      go false false a b e = e

  some_word : (p q : List A → Bool) (choices : ℕ → List A) (n : ℕ) → 0 < n → (cs : List A) → choices 0 ≡ cs → 0 < length cs → ((a : A) → q (a ∷ []) ≡ true) → 0 < up_to p (keep q (words_from choices n 0))
  unfolding keep words_from starting
  some_word p q choices zero h cs e l f = absurd (omega arith)
  some_word p q choices (suc n) h [] e l f = absurd (omega arith)
  some_word p q choices (suc n) h (a ∷ cs) e l f = rw (e, f a) (up_to_some p (a ∷ []) _)

  -- what stands behind w in a list that is in order comes after w
  behind : (R : List A → List A → Type 0) (us : List (List A)) (w : List A) (vs : List (List A)) → InOrder R (us ++ (w ∷ vs)) → (v : List A) → Memᴰ v vs → R w v
  behind R [] w vs p v m = p.0 v m
  behind R (u ∷ us) w vs p v m = behind R us w vs p.1 v m

  module _ (n : ℕ) (sound : List A → Bool) where
    -- a plan is accepted when it has n placements and is sound
    pub accepted_iff : (w : List A) → (accepted n sound w ≡ true) ↔ ((length w ≡ n) × (sound w ≡ true))
    unfolding accepted
    accepted_iff w = (
      λ e. let t = (and-eq-true_iff (eqb (length w) n) (sound w)).0 e in (eqb-true (length w) n t.0, t.1),
      λ t. rw (eq-eqb (length w) n t.0) t.1,
    )

  module _ (n : ℕ) (choices : ℕ → List A) (sound : List A → Bool) (h : Hereditary sound) (some_partition : 0 < n) where
    -- a budget of 0 always stops
    pub zero_stops : 0 < length (choices 0) → answer n choices sound 0 ≡ stopped 0
    unfolding needed tries words
    zero_stops l = (stopped_iff n choices sound 0 0).1 (
      refl,
      some_word (accepted n sound) (is_try sound) choices n some_partition (choices 0) refl l (λ a. try_append sound [] a [] ∙ h.empty),
    )

    -- an accepted plan is a try
    pub accepted_try : (w : List A) → accepted n sound w ≡ true → is_try sound w ≡ true
    unfolding is_try
    accepted_try w e = let t = (accepted_iff n sound w).0 e in
        let d = drop_last-prefix w in
        rw (le-leb 1 (length w) (omega arith)) (front sound h d.0 (drop_last w) (rw d.1 t.1))

    -- so the first accepted try is the first accepted word
    pub first_word : first n choices sound ≡ first_of (accepted n sound) (words n choices)
    unfolding first tries
    first_word = first_of_keep (accepted n sound) (is_try sound) accepted_try (words n choices)

    -- a plan found is the first accepted try, and the number is that of the tries up to and including it
    pub found_try : (b k : ℕ) (w : List A) → answer n choices sound b ≡ found w k → FirstIn (accepted n sound) (tries n choices sound) w k
    unfolding first needed
    found_try b k w e = let t = (found_iff n choices sound b k w).0 e in rw t.1 at (first_of_some (accepted n sound) (tries n choices sound) w t.0)

    word_first : (b k : ℕ) (w : List A) → answer n choices sound b ≡ found w k
        → FirstIn (accepted n sound) (words_from choices n 0) w (up_to (accepted n sound) (words_from choices n 0))
    unfolding words
    word_first b k w e = first_of_some (accepted n sound) (words n choices) w (sym first_word ∙ ((found_iff n choices sound b k w).0 e).0)

    -- a plan found is accepted, and every other accepted plan over the choices comes after it in the dictionary
    pub found_least : (b k : ℕ) (w : List A) → answer n choices sound b ≡ found w k
        → Over choices 0 w × (length w ≡ n) × (sound w ≡ true) × ((u : List A) → Over choices 0 u → length u ≡ n → sound u ≡ true → (u ≡ w) ⊎ Precedes choices 0 w u)
    found_least b k w e = (
      (words_only choices n 0 w (rw f.split (Memᴰ.append_right f.before (Memᴰ.head refl)))).2,
      a.0,
      a.1,
      λ u o l s. first_or_later u ((accepted_iff n sound u).1 (l, s)) (Memᴰ.append_cases f.before (rw f.split at (words_all choices n 0 u (omega arith) (omega arith) o))),
    )
      where
        f : FirstIn (accepted n sound) (words_from choices n 0) w (up_to (accepted n sound) (words_from choices n 0))
        f = word_first b k w e

        a : (length w ≡ n) × (sound w ≡ true)
        a = (accepted_iff n sound w).0 f.passes

        after : (u : List A) → (u ≡ w) ⊎ Memᴰ u f.after → (u ≡ w) ⊎ Precedes choices 0 w u
        after u (inl q) = inl q
        after u (inr m) = inr (behind (Precedes choices 0) f.before w f.after (rw f.split at (words_ordered choices n 0)) u m)

        first_or_later : (u : List A) → accepted n sound u ≡ true → Memᴰ u f.before ⊎ Memᴰ u (w ∷ f.after) → (u ≡ w) ⊎ Precedes choices 0 w u
        first_or_later u q (inl m) = absurd (true≢false (sym q ∙ f.fail u m))
        first_or_later u q (inr m) = after u (Memᴰ.cases_cons m)

    -- there is no plan exactly when no word of n placements over the choices is sound
    pub none_iff : (first n choices sound ≡ none) ↔ ((w : List A) → Over choices 0 w → length w ≡ n → sound w ≡ false)
    unfolding words
    none_iff = (
      λ e w o l. no_plan_is_left w l (sound w) refl ((first_of_none (accepted n sound) (words n choices) (sym first_word ∙ e)).0 w (words_all choices n 0 w (omega arith) (omega arith) o)),
      λ f. first_word ∙ none_first_of (accepted n sound) (words n choices) (λ u m. no_word f u (words_only choices n 0 u m).2 (accepted n sound u) refl),
    )
      where
        no_plan_is_left : (w : List A) → length w ≡ n → (c : Bool) → sound w ≡ c → accepted n sound w ≡ false → sound w ≡ false
        no_plan_is_left w l true q a = absurd (true≢false (sym ((accepted_iff n sound w).1 (l, q)) ∙ a))
        no_plan_is_left w l false q a = q

        no_word : ((w : List A) → Over choices 0 w → length w ≡ n → sound w ≡ false) → (u : List A) → Over choices 0 u → (c : Bool) → accepted n sound u ≡ c → accepted n sound u ≡ false
        no_word f u o true q = let t = (accepted_iff n sound u).0 q in absurd (true≢false (sym t.1 ∙ f u o t.0))
        no_word f u o false q = q

    -- where there is no plan all tries are needed
    pub none_needs_all : first n choices sound ≡ none → needed n choices sound ≡ length (tries n choices sound)
    unfolding first needed
    none_needs_all e = (first_of_none (accepted n sound) (tries n choices sound) e).1

    -- that there is none comes with the number of all tries, and then no word of n placements over the choices is sound
    pub absent_all : (b k : ℕ) → answer n choices sound b ≡ absent k → (length (tries n choices sound) ≡ k) × ((w : List A) → Over choices 0 w → length w ≡ n → sound w ≡ false)
    absent_all b k e = let t = (absent_iff n choices sound b k).0 e in
        (sym (none_needs_all t.0) ∙ t.1, none_iff.0 t.0)
