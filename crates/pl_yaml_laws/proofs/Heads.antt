-- What holds of each kind of head holds of the head of every text.
use Rattle.std.proofs.Common.{◌≡◌, ℕ, Bool, true, false, ◌&&◌, ◌||◌, List, [], ◌∷◌, drop}
use Rattle.std.proofs.Common.{take, length, ◌<◌, ap, arith, inl, inr}
use Rattle.std.specs.List.{list_any}
use Rattle.std.specs.Prelude.{◌==◌}
use Rattle.std.proofs.lemmas.Bool.{cases_Bool}
use Rattle.pl_line.specs.Scanning.{ends_word, plain_len, is_stray}
use Rattle.pl_reading.specs.Bytes.{begins_with}
use Rattle.pl_yaml.specs.Heads.{head_at, is_quote, is_bracket, is_block, plain_head}

-- A dash, a question mark, an anchor, a tag, a quote, a bracket, a block scalar's mark, what begins
-- no node; a key, and a plain text that is none.
pub by_heads : (Q : _ → Type 0) (whole : Bool) (text : List ℕ)
    → Q (head_at true (45 ∷ [])) → Q (head_at true (63 ∷ [])) → Q (head_at true (38 ∷ []))
    → Q (head_at true (33 ∷ [])) → Q (head_at true (39 ∷ [])) → Q (head_at true (91 ∷ []))
    → ((begins_with 45 text && ends_word whole (drop 1 text)) ≡ false
    → list_any is_block (take 1 text) ≡ true → Q (head_at true (124 ∷ [])))
    → Q (head_at true [])
    → ((text : List ℕ) (n : ℕ) → begins_with 58 (drop n text) ≡ true → Q (plain_head text n))
    → ((begins_with 45 text && ends_word whole (drop 1 text)) ≡ false
    → 0 < length text → begins_with 58 (drop (plain_len whole false text) text) ≡ false
    → Q (plain_head text (plain_len whole false text)))
    → Q (head_at whole text)
unfolding head_at
by_heads Q whole [] dash question anchor tag quote bracket block stray key word = stray
by_heads Q whole (c ∷ cs) dash question anchor tag quote bracket block stray key word =
    elim (cases_Bool (c == 45 && ends_word whole cs)) [
      | inl is ↦ rw is dash
      | inr no_dash ↦ elim (cases_Bool (c == 63 && ends_word whole cs)) [
        | inl is ↦ rw (no_dash, is) question
        | inr no_question ↦ elim (cases_Bool (c == 38 || c == 42)) [
          | inl is ↦ rw (no_dash, no_question, is) anchor
          | inr no_anchor ↦ elim (cases_Bool (c == 33)) [
            | inl is ↦ rw (no_dash, no_question, no_anchor, is) tag
            | inr no_tag ↦ elim (cases_Bool (is_quote c)) [
              | inl is ↦ rw (no_dash, no_question, no_anchor, no_tag, is) quote
              | inr no_quote ↦ elim (cases_Bool (is_bracket c)) [
                | inl is ↦ rw (no_dash, no_question, no_anchor, no_tag, no_quote, is) bracket
                | inr no_bracket ↦ elim (cases_Bool (is_block c)) [
                  | inl is ↦
                      rw (no_dash, no_question, no_anchor, no_tag, no_quote, no_bracket, is)
                      (block no_dash (ap (λ b. b || false) is))
                  | inr no_block ↦ elim (cases_Bool (is_stray c || c == 58 && ends_word whole cs)) [
                    | inl is ↦
                        rw (
                          no_dash,
                          no_question,
                          no_anchor,
                          no_tag,
                          no_quote,
                          no_bracket,
                          no_block,
                          is,
                        ) stray
                    | inr no_stray ↦
                        rw (
                          no_dash,
                          no_question,
                          no_anchor,
                          no_tag,
                          no_quote,
                          no_bracket,
                          no_block,
                          no_stray,
                        )
                        (plain no_dash)
                  ]
                ]
              ]
            ]
          ]
        ]
      ]
    ]
  where
    plain : (begins_with 45 (c ∷ cs) && ends_word whole cs) ≡ false
        → Q (plain_head (c ∷ cs) (plain_len whole false (c ∷ cs)))
    plain no_dash =
        elim (cases_Bool (begins_with 58 (drop (plain_len whole false (c ∷ cs)) (c ∷ cs)))) [
          | inl is ↦ key (c ∷ cs) (plain_len whole false (c ∷ cs)) is
          | inr isnt ↦ word no_dash (omega arith) isnt
        ]

-- the same with nothing known of the text
pub by_head : (Q : _ → Type 0) (whole : Bool) (text : List ℕ)
    → Q (head_at true (45 ∷ [])) → Q (head_at true (63 ∷ [])) → Q (head_at true (38 ∷ []))
    → Q (head_at true (33 ∷ [])) → Q (head_at true (39 ∷ [])) → Q (head_at true (91 ∷ []))
    → Q (head_at true (124 ∷ [])) → Q (head_at true [])
    → ((text : List ℕ) (n : ℕ) → begins_with 58 (drop n text) ≡ true → Q (plain_head text n))
    → ((text : List ℕ) (n : ℕ) → begins_with 58 (drop n text) ≡ false → Q (plain_head text n))
    → Q (head_at whole text)
by_head Q whole text dash question anchor tag quote bracket block stray key word =
    by_heads Q whole text dash question anchor tag quote bracket (λ _ _. block) stray key
    (λ _ _ isnt. word text (plain_len whole false text) isnt)
