-- The answer buffer: a reply's values in their order (a count as itself, a float as its bits), then 0, eight words in all. No reply has more than six values (proofs/Few.antt).
use Rattle.std.specs.Prelude.{ℕ, List, [], ◌∷◌, ◌++◌, map, length, get_or, take, drop}
use Rattle.std.specs.Float.{binary64}
use Rattle.std.specs.Float.Ieee.{to_bits}
use Rattle.arithmetic.specs.Reply.{Reply, Value, count, float}
use Rattle.host.specs.declared.answer.ReplyWords.{ReplyWords}

abbrev pub value_word : Value → ℕ
value_word (count n) = n
value_word (float x) = to_bits binary64 x

-- value k as a word, 0 where there is none
abbrev pub value_at : List Value → ℕ → ℕ
value_at vs k = get_or (map value_word vs) k 0

-- a reply as a number and words
abbrev pub reply_words : Reply → ReplyWords
reply_words r = record {
  number = r.number;
  words = value_at r.values 0 ∷ value_at r.values 1 ∷ value_at r.values 2 ∷ value_at r.values 3 ∷ value_at r.values 4 ∷ value_at r.values 5 ∷ 0 ∷ 0 ∷ [];
}

abbrev pub words_of : ReplyWords → List ℕ
words_of t = t.words

-- as many words as fit, in order; words past the eighth stay as they were
unfoldable pub answered : List ℕ → List ℕ → List ℕ
answered old words = take (length old) words ++ drop (length words) old

-- the buffer after a reply
abbrev pub answered_by : List ℕ → Reply → List ℕ
answered_by old r = answered old (words_of (reply_words r))
