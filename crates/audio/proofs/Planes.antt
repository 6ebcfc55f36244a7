-- Planar audio of any width, of samples or of their bytes: its frames, and outputs written into it.
use mathlib.Core.Path.{◌≡◌, refl, sym, ap, ◌∙◌}
use mathlib.Core.Bool.{Bool, true, false}
use mathlib.Core.List.{List, [], ◌∷◌, ◌++◌, map}
use Prim.Native.Nat.{ℕ, zero, suc, ◌+◌, ◌-◌, ◌*◌, ◌≤◌, ◌<◌, min}
use native.Mathlib.Nat.{suc-mul, zero-mul}
use native.Mathlib.Omega.{arith}
use lib.Dec.{ltb}
use lib.ListN.{length, get_or, take, drop, length-append, length-take, length-drop, length-map, take-append-drop, get_or-append, get_or-map}
use lib.Seq.{get_or-drop, get_or-take, get_or-append-add, ext_get_or, length-take-le}
use borrow.Author.Tests.{ltb-true, ltb-false}
use Rattle.audio.specs.Planar.{frame_at, frames_at, first_of, others_of, written}
use Rattle.audio.specs.Inner.{PlacesCarried}
use Rattle.audio.proofs.Carry.{carried_outside}

-- ---- frames
pub drop-map : {A B : Type 0} (f : A → B) (n : ℕ) (l : List A) → drop n (map f l) ≡ map f (drop n l)
drop-map f zero l = refl
drop-map f (suc n) [] = refl
drop-map f (suc n) (x ∷ l) = drop-map f n l

-- of each place's image
frame_map : {A B : Type 0} (f : A → B) (none : A) (w k i : ℕ) (audio : List A) → frame_at (f none) w k i (map f audio) ≡ map f (frame_at none w k i audio)
unfolding frame_at
frame_map f none w zero i audio = refl
frame_map f none w (suc k) i audio = rw (get_or-map f audio i none, drop-map f w audio, frame_map f none w k i (drop w audio)) refl

pub frames_map : {A B : Type 0} (f : A → B) (none : A) (w k i n : ℕ) (audio : List A) → frames_at (f none) w k i n (map f audio) ≡ map (map f) (frames_at none w k i n audio)
unfolding frames_at
frames_map f none w k i zero audio = refl
frames_map f none w k i (suc n) audio = rw (frame_map f none w k i audio, frames_map f none w k (i + 1) n audio) refl

module _ {A : Type 0} (none : A) where
  pub frames_at_length : (w k i n : ℕ) (audio : List A) → length (frames_at none w k i n audio) ≡ n
  unfolding frames_at
  frames_at_length w k i zero audio = refl
  frames_at_length w k i (suc n) audio = ap suc (frames_at_length w k (i + 1) n audio)

  pub frames_take : (w k i m n : ℕ) (audio : List A) → m ≤ n → take m (frames_at none w k i n audio) ≡ frames_at none w k i m audio
  unfolding frames_at
  frames_take w k i zero n audio h = refl
  frames_take w k i (suc m) zero audio h = absurd (omega arith)
  frames_take w k i (suc m) (suc n) audio h = ap (λ (l : List (List A)). frame_at none w k i audio ∷ l) (frames_take w k (i + 1) m n audio (omega arith))

  pub frames_drop : (w k i m n : ℕ) (audio : List A) → m ≤ n → drop m (frames_at none w k i n audio) ≡ frames_at none w k (i + m) (n - m) audio
  unfolding frames_at
  frames_drop w k i zero n audio h =
      let e : i + 0 ≡ i = omega arith in
      let f : n - 0 ≡ n = omega arith in
      rw (e, f) refl
  frames_drop w k i (suc m) zero audio h = absurd (omega arith)
  frames_drop w k i (suc m) (suc n) audio h =
      let e : i + suc m ≡ i + 1 + m = omega arith in
      let f : suc n - suc m ≡ n - m = omega arith in
      rw (e, f) (frames_drop w k (i + 1) m n audio (omega arith))

  -- what stands where in them
  frame_place : (w k i c : ℕ) (audio : List A) → c < k → get_or (frame_at none w k i audio) c none ≡ get_or audio (c * w + i) none
  unfolding frame_at
  frame_place w zero i c audio h = absurd (omega arith)
  frame_place w (suc k) i zero audio h = let e : 0 * w + i ≡ i = rw (zero-mul w) (omega arith) in rw e refl
  frame_place w (suc k) i (suc c) audio h =
      let e : w + (c * w + i) ≡ suc c * w + i = let t = suc-mul c w in omega arith in
      frame_place w k i c (drop w audio) (omega arith) ∙ get_or-drop w audio (c * w + i) none ∙ ap (λ (p : ℕ). get_or audio p none) e

  pub frames_place : (w k i n c j : ℕ) (audio : List A) → c < k → j < n → get_or (get_or (frames_at none w k i n audio) j []) c none ≡ get_or audio (c * w + i + j) none
  unfolding frames_at
  frames_place w k i zero c j audio h g = absurd (omega arith)
  frames_place w k i (suc n) c zero audio h g = let e : c * w + i + 0 ≡ c * w + i = omega arith in rw e (frame_place w k i c audio h)
  frames_place w k i (suc n) c (suc j) audio h g =
      let e : c * w + (i + 1) + j ≡ c * w + i + suc j = omega arith in
      frames_place w k (i + 1) n c j audio h (omega arith) ∙ ap (λ (p : ℕ). get_or audio p none) e

  -- of places that agree
  frame_same : (w w' k i j : ℕ) (a b : List A) → ((c : ℕ) → c < k → get_or a (c * w + i) none ≡ get_or b (c * w' + j) none) → frame_at none w k i a ≡ frame_at none w' k j b
  unfolding frame_at
  frame_same w w' zero i j a b same = refl
  frame_same w w' (suc k) i j a b same = rw (first, frame_same w w' k i j (drop w a) (drop w' b) later) refl
    where
      first : get_or a i none ≡ get_or b j none
      first =
          let e : 0 * w + i ≡ i = rw (zero-mul w) (omega arith) in
          let f : 0 * w' + j ≡ j = rw (zero-mul w') (omega arith) in
          sym (ap (λ (p : ℕ). get_or a p none) e) ∙ same 0 (omega arith) ∙ ap (λ (p : ℕ). get_or b p none) f

      later : (c : ℕ) → c < k → get_or (drop w a) (c * w + i) none ≡ get_or (drop w' b) (c * w' + j) none
      later c h =
          let e : w + (c * w + i) ≡ suc c * w + i = let m = suc-mul c w in omega arith in
          let f : suc c * w' + j ≡ w' + (c * w' + j) = let m = suc-mul c w' in omega arith in
          get_or-drop w a (c * w + i) none ∙ ap (λ (p : ℕ). get_or a p none) e ∙ same (suc c) (omega arith) ∙ ap (λ (p : ℕ). get_or b p none) f ∙ sym (get_or-drop w' b (c * w' + j) none)

  pub frames_same : (w w' k i j n : ℕ) (a b : List A) → ((c m : ℕ) → c < k → m < n → get_or a (c * w + i + m) none ≡ get_or b (c * w' + j + m) none) → frames_at none w k i n a ≡ frames_at none w' k j n b
  unfolding frames_at
  frames_same w w' k i j zero a b same = refl
  frames_same w w' k i j (suc n) a b same = rw (frame_same w w' k i j a b first, frames_same w w' k (i + 1) (j + 1) n a b later) refl
    where
      first : (c : ℕ) → c < k → get_or a (c * w + i) none ≡ get_or b (c * w' + j) none
      first c h =
          let e : c * w + i + 0 ≡ c * w + i = omega arith in
          let f : c * w' + j + 0 ≡ c * w' + j = omega arith in
          sym (ap (λ (p : ℕ). get_or a p none) e) ∙ same c 0 h (omega arith) ∙ ap (λ (p : ℕ). get_or b p none) f

      later : (c m : ℕ) → c < k → m < n → get_or a (c * w + (i + 1) + m) none ≡ get_or b (c * w' + (j + 1) + m) none
      later c m h g =
          let e : c * w + (i + 1) + m ≡ c * w + i + suc m = omega arith in
          let f : c * w' + j + suc m ≡ c * w' + (j + 1) + m = omega arith in
          ap (λ (p : ℕ). get_or a p none) e ∙ same c (suc m) h (omega arith) ∙ ap (λ (p : ℕ). get_or b p none) f

  -- ---- what stands where in audio that was written
  pub written_length : (w k n : ℕ) (audio : List A) (outputs : List (List A)) → n ≤ w → length outputs ≡ n → k * w ≤ length audio → length (written none w k n audio outputs) ≡ length audio
  unfolding written
  written_length w zero n audio outputs short m a = refl
  written_length w (suc k) n audio outputs short m a =
      let e = suc-mul k w in
      let others = map (λ (f : List A). others_of f) outputs in
      let firsts = map (λ (f : List A). first_of none f) outputs in
      let left = drop n (take w audio) in
      let later = written none w k n (drop w audio) others in
      let i = written_length w k n (drop w audio) others short (length-map outputs (λ (f : List A). others_of f) ∙ m) (rw (length-drop w audio) (omega arith)) in
      length-append firsts (left ++ later)
      ∙ rw (length-append left later, length-drop n (take w audio), length-take-le w audio (omega arith), i, length-drop w audio, length-map outputs (λ (f : List A). first_of none f), m) (omega arith)

  -- nothing written
  pub written_none : (w k : ℕ) (audio : List A) → written none w k 0 audio [] ≡ audio
  unfolding written
  written_none w zero audio = refl
  written_none w (suc k) audio = ap (λ (l : List A). take w audio ++ l) (written_none w k (drop w audio)) ∙ take-append-drop w audio

  get_d_firsts : (l : List (List A)) (i : ℕ) → get_or (map (λ (f : List A). first_of none f) l) i none ≡ first_of none (get_or l i [])
  get_d_firsts l i = get_or-map (λ (f : List A). first_of none f) l i []

  get_d_others : (l : List (List A)) (i : ℕ) → get_or (map (λ (f : List A). others_of f) l) i [] ≡ others_of (get_or l i [])
  get_d_others l i = get_or-map (λ (f : List A). others_of f) l i []

  -- past the first part of a list
  get_d_past : (xs ys : List A) (n p : ℕ) → length xs ≡ n → get_or (xs ++ ys) (n + p) none ≡ get_or ys p none
  get_d_past xs ys n p e = ap (λ (m : ℕ). get_or (xs ++ ys) (m + p) none) (sym e) ∙ get_or-append-add xs ys p none

  module _ (w n : ℕ) (short : n ≤ w) where
    module _ (k : ℕ) (audio : List A) (outputs : List (List A)) (m : length outputs ≡ n) (a : suc k * w ≤ length audio) where
      abbrev firsts : List A
      firsts = map (λ (f : List A). first_of none f) outputs

      abbrev left : List A
      left = drop n (take w audio)

      abbrev later : List A
      later = written none w k n (drop w audio) (map (λ (f : List A). others_of f) outputs)

      firsts_length : length firsts ≡ n
      firsts_length = length-map outputs (λ (f : List A). first_of none f) ∙ m

      left_length : length left ≡ w - n
      left_length =
          let e = suc-mul k w in
          length-drop n (take w audio) ∙ rw (length-take-le w audio (omega arith)) refl

      first_there : (i : ℕ) → i < n → get_or (firsts ++ (left ++ later)) i none ≡ get_or (get_or outputs i []) 0 none
      first_there i h = get_or-append firsts (left ++ later) none i (rw firsts_length h) ∙ get_d_firsts outputs i

      first_past : (i : ℕ) → n ≤ i → i < w → get_or (firsts ++ (left ++ later)) i none ≡ get_or audio i none
      first_past i h g =
          let e : i ≡ n + (i - n) = omega arith in
          ap (λ (p : ℕ). get_or (firsts ++ (left ++ later)) p none) e
          ∙ get_d_past firsts (left ++ later) n (i - n) firsts_length
          ∙ get_or-append left later none (i - n) (rw left_length (omega arith))
          ∙ get_or-drop n (take w audio) (i - n) none
          ∙ ap (λ (p : ℕ). get_or (take w audio) p none) (sym e)
          ∙ get_or-take w audio i none g

      onward : (p : ℕ) → get_or (firsts ++ (left ++ later)) (w + p) none ≡ get_or later p none
      onward p =
          let e : w + p ≡ n + (w - n + p) = omega arith in
          ap (λ (q : ℕ). get_or (firsts ++ (left ++ later)) q none) e
          ∙ get_d_past firsts (left ++ later) n (w - n + p) firsts_length
          ∙ get_d_past left later (w - n) p left_length

    -- the output
    pub written_there : (k c i : ℕ) (audio : List A) (outputs : List (List A)) → length outputs ≡ n → k * w ≤ length audio → c < k → i < n
        → get_or (written none w k n audio outputs) (c * w + i) none ≡ get_or (get_or outputs i []) c none
    unfolding written
    written_there zero c i audio outputs m a h g = absurd (omega arith)
    written_there (suc k) zero i audio outputs m a h g =
        let e : 0 * w + i ≡ i = rw (zero-mul w) (omega arith) in
        rw e (first_there k audio outputs m a i g)
    written_there (suc k) (suc c) i audio outputs m a h g =
        let s = suc-mul k w in
        let e : suc c * w + i ≡ w + (c * w + i) = let t = suc-mul c w in omega arith in
        let others = map (λ (f : List A). others_of f) outputs in
        rw e (onward k audio outputs m a (c * w + i)
        ∙ written_there k c i (drop w audio) others (length-map outputs (λ (f : List A). others_of f) ∙ m) (rw (length-drop w audio) (omega arith)) (omega arith) g
        ∙ ap (λ (f : List A). get_or f c none) (get_d_others outputs i)
        ∙ get_or-drop 1 (get_or outputs i []) c none
        ∙ ap (λ (p : ℕ). get_or (get_or outputs i []) p none) one)
      where
        one : 1 + c ≡ suc c
        one = omega arith

    -- the old one
    pub written_past : (k c i : ℕ) (audio : List A) (outputs : List (List A)) → length outputs ≡ n → k * w ≤ length audio → c < k → n ≤ i → i < w
        → get_or (written none w k n audio outputs) (c * w + i) none ≡ get_or audio (c * w + i) none
    unfolding written
    written_past zero c i audio outputs m a h g l = absurd (omega arith)
    written_past (suc k) zero i audio outputs m a h g l =
        let e : 0 * w + i ≡ i = rw (zero-mul w) (omega arith) in
        rw e (first_past k audio outputs m a i g l)
    written_past (suc k) (suc c) i audio outputs m a h g l =
        let s = suc-mul k w in
        let e : suc c * w + i ≡ w + (c * w + i) = let t = suc-mul c w in omega arith in
        let others = map (λ (f : List A). others_of f) outputs in
        rw e (onward k audio outputs m a (c * w + i)
        ∙ written_past k c i (drop w audio) others (length-map outputs (λ (f : List A). others_of f) ∙ m) (rw (length-drop w audio) (omega arith)) (omega arith) g l
        ∙ get_or-drop w audio (c * w + i) none)

  -- outputs that agree are written alike
  pub written_same : (w k n : ℕ) (audio : List A) (a b : List (List A)) → length a ≡ length b → ((c i : ℕ) → c < k → i < length a → get_or (get_or a i []) c none ≡ get_or (get_or b i []) c none)
      → written none w k n audio a ≡ written none w k n audio b
  unfolding written
  written_same w zero n audio a b l same = refl
  written_same w (suc k) n audio a b l same = rw (first, written_same w k n (drop w audio) (map (λ (f : List A). others_of f) a) (map (λ (f : List A). others_of f) b) (length-map a (λ (f : List A). others_of f) ∙ l ∙ sym (length-map b (λ (f : List A). others_of f))) later) refl
    where
      first : map (λ (f : List A). first_of none f) a ≡ map (λ (f : List A). first_of none f) b
      first =
          let m = length-map a (λ (f : List A). first_of none f) in
          ext_get_or none (map (λ (f : List A). first_of none f) a) (map (λ (f : List A). first_of none f) b) (m ∙ l ∙ sym (length-map b (λ (f : List A). first_of none f)))
          (λ i h. get_d_firsts a i ∙ same 0 i (omega arith) (omega (arith, h, m)) ∙ sym (get_d_firsts b i))

      other : (x : List (List A)) (c i : ℕ) → get_or (get_or (map (λ (f : List A). others_of f) x) i []) c none ≡ get_or (get_or x i []) (suc c) none
      other x c i =
          let one : 1 + c ≡ suc c = omega arith in
          ap (λ (f : List A). get_or f c none) (get_d_others x i) ∙ get_or-drop 1 (get_or x i []) c none ∙ ap (λ (p : ℕ). get_or (get_or x i []) p none) one

      later : (c i : ℕ) → c < k → i < length (map (λ (f : List A). others_of f) a) → get_or (get_or (map (λ (f : List A). others_of f) a) i []) c none ≡ get_or (get_or (map (λ (f : List A). others_of f) b) i []) c none
      later c i h g = other a c i ∙ same (suc c) i (omega arith) (omega (arith, g, length-map a (λ (f : List A). others_of f))) ∙ sym (other b c i)

  -- audios that agree elsewhere are alike once the outputs are written
  pub written_elsewhere : (w k n : ℕ) (a b : List A) (outputs : List (List A)) → n ≤ w → length a ≡ length b → ((p : ℕ) → ((c : ℕ) → c < k → c * w ≤ p → c * w + n ≤ p) → get_or a p none ≡ get_or b p none)
      → written none w k n a outputs ≡ written none w k n b outputs
  unfolding written
  written_elsewhere w zero n a b outputs short l same = ext_get_or none a b l (λ i h. same i (λ c g. absurd (omega arith)))
  written_elsewhere w (suc k) n a b outputs short l same = rw (left, written_elsewhere w k n (drop w a) (drop w b) (map (λ (f : List A). others_of f) outputs) short (length-drop w a ∙ rw l (sym (length-drop w b))) later) refl
    where
      parts : (x : List A) → length (drop n (take w x)) ≡ min w (length x) - n
      parts x = length-drop n (take w x) ∙ rw (length-take w x) refl

      part : (x : List A) (i : ℕ) → n + i < w → get_or (drop n (take w x)) i none ≡ get_or x (n + i) none
      part x i h = get_or-drop n (take w x) i none ∙ get_or-take w x (n + i) none h

      outside : (i c : ℕ) → n + i < w → c * w ≤ n + i → c * w + n ≤ n + i
      outside i zero h g = let z = zero-mul w in omega arith
      outside i (suc c) h g = let z = suc-mul c w in absurd (omega arith)

      left : drop n (take w a) ≡ drop n (take w b)
      left = ext_get_or none (drop n (take w a)) (drop n (take w b)) (parts a ∙ rw l (sym (parts b))) (λ i h.
          let g : n + i < w = omega (arith, h, parts a) in
          part a i g ∙ same (n + i) (λ c q. outside i c g) ∙ sym (part b i g))

      further : (p : ℕ) → ((c : ℕ) → c < k → c * w ≤ p → c * w + n ≤ p) → (c : ℕ) → c < suc k → c * w ≤ w + p → c * w + n ≤ w + p
      further p h zero g q = let z = zero-mul w in omega arith
      further p h (suc c) g q = let z = suc-mul c w in omega (arith, h c (omega arith) (omega arith))

      later : (p : ℕ) → ((c : ℕ) → c < k → c * w ≤ p → c * w + n ≤ p) → get_or (drop w a) p none ≡ get_or (drop w b) p none
      later p h = get_or-drop w a p none ∙ same (w + p) (further p h) ∙ sym (get_or-drop w b p none)

  -- ---- equal channel by channel
  pub planes_same : (w k : ℕ) (a b : List A) → length a ≡ k * w → length b ≡ k * w → ((c i : ℕ) → c < k → i < w → get_or a (c * w + i) none ≡ get_or b (c * w + i) none) → a ≡ b
  planes_same w zero a b la lb same = ext_get_or none a b (la ∙ sym lb) (λ i h. absurd (let z = zero-mul w in omega (arith, h, la, z)))
  planes_same w (suc k) a b la lb same = sym (take-append-drop w a) ∙ rw (first, planes_same w k (drop w a) (drop w b) (dropped a la) (dropped b lb) later) (take-append-drop w b)
    where
      dropped : (l : List A) → length l ≡ suc k * w → length (drop w l) ≡ k * w
      dropped l h = length-drop w l ∙ (let e = suc-mul k w in omega arith)

      taken : (l : List A) → length l ≡ suc k * w → length (take w l) ≡ w
      taken l h = length-take-le w l (let e = suc-mul k w in omega arith)

      first : take w a ≡ take w b
      first = ext_get_or none (take w a) (take w b) (taken a la ∙ sym (taken b lb)) (λ i h.
          let g : i < w = omega (arith, h, taken a la) in
          let e : 0 * w + i ≡ i = rw (zero-mul w) (omega arith) in
          get_or-take w a i none g ∙ sym (ap (λ (p : ℕ). get_or a p none) e) ∙ same 0 i (omega arith) g ∙ ap (λ (p : ℕ). get_or b p none) e ∙ sym (get_or-take w b i none g))

      later : (c i : ℕ) → c < k → i < w → get_or (drop w a) (c * w + i) none ≡ get_or (drop w b) (c * w + i) none
      later c i h g =
          let e : w + (c * w + i) ≡ suc c * w + i = let m = suc-mul c w in omega arith in
          get_or-drop w a (c * w + i) none ∙ ap (λ (p : ℕ). get_or a p none) e ∙ same (suc c) i (omega arith) g ∙ sym (ap (λ (p : ℕ). get_or b p none) e) ∙ sym (get_or-drop w b (c * w + i) none)

  -- ---- a run's frames into audio whose earlier frames are written
  module _ (w k first n w' : ℕ) (audio : List A) (outs : List (List A)) (run after : List A) (m : length outs ≡ first) (a : length audio ≡ k * w) (s : first + n ≤ w)
      (la : length after ≡ k * w) (moved : PlacesCarried none k n w' 0 run w first (written none w k first audio outs) after) where
    abbrev both : List (List A)
    both = outs ++ frames_at none w' k 0 n run

    many : length both ≡ first + n
    many = length-append outs (frames_at none w' k 0 n run) ∙ rw (m, frames_at_length w' k 0 n run) refl

    enough : k * w ≤ length audio
    enough = omega (arith, a)

    -- a place outside what was carried
    outside : (c i : ℕ) → c < k → i < w → (first ≤ i → first + n ≤ i) → get_or after (c * w + i) none ≡ get_or (written none w k first audio outs) (c * w + i) none
    outside = carried_outside k n w' 0 run w first s (written none w k first audio outs) after moved

    pub scattered : after ≡ written none w k (first + n) audio both
    scattered = planes_same w k after (written none w k (first + n) audio both) la (written_length w k (first + n) audio both s many enough ∙ a) (λ c i h g. go c i h g (ltb i first) (ltb i (first + n)) refl refl)
      where
        go : (c i : ℕ) → c < k → i < w → (p q : Bool) → ltb i first ≡ p → ltb i (first + n) ≡ q → get_or after (c * w + i) none ≡ get_or (written none w k (first + n) audio both) (c * w + i) none
        go c i h g true q e f =
            let l = ltb-true i first e in
            outside c i h g (λ b. absurd (omega (arith, b, l)))
            ∙ written_there w first (omega arith) k c i audio outs m enough h l
            ∙ ap (λ (x : List A). get_or x c none) (sym (get_or-append outs (frames_at none w' k 0 n run) [] i (rw m l)))
            ∙ sym (written_there w (first + n) s k c i audio both many enough h (omega (arith, l)))
        go c i h g false true e f =
            let l = ltb-false i first e in
            let l' = ltb-true i (first + n) f in
            let j = i - first in
            let t : i ≡ first + j = omega (arith, l) in
            let u : j < n = omega (arith, l, l') in
            let x : c * w + i ≡ c * w + first + j = omega (arith, l) in
            ap (λ (p : ℕ). get_or after p none) x
            ∙ moved.there c j h u
            ∙ sym (frames_place w' k 0 n c j run h u)
            ∙ ap (λ (v : List A). get_or v c none) (sym (ap (λ (p : ℕ). get_or both p []) (t ∙ ap (λ (p : ℕ). p + j) (sym m)) ∙ get_or-append-add outs (frames_at none w' k 0 n run) j []))
            ∙ sym (written_there w (first + n) s k c i audio both many enough h l')
        go c i h g false false e f =
            let l = ltb-false i (first + n) f in
            outside c i h g (λ b. l)
            ∙ written_past w first (omega arith) k c i audio outs m enough h (omega (arith, l)) g
            ∙ sym (written_past w (first + n) s k c i audio both many enough h l g)
