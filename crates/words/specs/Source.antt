-- A source of words, by what it will give.
use Rattle.std.specs.Prelude.{◌≡◌, ℕ, ◌+◌, ◌^◌, ◌<◌, ◌≤◌, Some, None, Option}

-- A finite or endless sequence of words, all smaller than the span.
pub record Source : Type 0 where
  pub span : ℕ
  -- the word that the asking after i others will get
  pub coming : ℕ → Option ℕ
  pub some_span : 1 ≤ span
  pub few_span : span ≤ 2 ^ 32
  pub below : (i w : ℕ) → coming i ≡ Some w → w < span
  pub ended : (i : ℕ) → coming i ≡ None → coming (i + 1) ≡ None

-- What was to come before, less its first k words, is to come afterwards.
pub record Past (k : ℕ) (before after : Source) : Type 0 where
  pub same_span : after.span ≡ before.span
  pub rest : (i : ℕ) → after.coming i ≡ before.coming (i + k)

-- How many words an answer takes.
abbrev pub taken : Option ℕ → ℕ
taken None = 0
taken (Some w) = 1

-- Asking for a word gives the first of those to come, and takes it.
pub record Asked (before : Source) (answer : Option ℕ) (after : Source) : Type 0 where
  pub first : answer ≡ before.coming 0
  pub past : Past (taken answer) before after
