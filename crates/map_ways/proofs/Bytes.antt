-- The bytes that a label has in another form, and all others.
use Rattle.std.proofs.Common.{◌≡◌, ℕ, Bool, true, false, refl, sym, subst}
use Rattle.std.specs.Prelude.{◌==◌}
use Rattle.std.proofs.lemmas.Bool.{eqb-true}
use Rattle.map_ways.specs.Labels.{AMPERSAND, BACKSLASH, LINE_FEED, QUOTE}

-- a byte that has the same form in a label, or that is a control byte
pub record IsOther (byte : ℕ) : Type 0 where
  pub quote : (byte == QUOTE) ≡ false
  pub backslash : (byte == BACKSLASH) ≡ false
  pub feed : (byte == LINE_FEED) ≡ false
  pub ampersand : (byte == AMPERSAND) ≡ false

module _ (P : ℕ → Type 0) where
  at_known : (byte known : ℕ) → (byte == known) ≡ true → P known → P byte
  at_known byte known is holds = subst P (sym (eqb-true byte known is)) holds

  -- what holds of those bytes and of all others holds of each byte
  pub by_bytes : P QUOTE → P BACKSLASH → P LINE_FEED → P AMPERSAND
      → ((byte : ℕ) → IsOther byte → P byte) → (byte : ℕ) → P byte
  by_bytes at_quote at_backslash at_feed at_ampersand at_other byte = quote (byte == QUOTE) refl
    where
      ampersand : (byte == QUOTE) ≡ false → (byte == BACKSLASH) ≡ false
          → (byte == LINE_FEED) ≡ false → (b : Bool) → (byte == AMPERSAND) ≡ b → P byte
      ampersand q s f true is = at_known byte AMPERSAND is at_ampersand
      ampersand q s f false is =
          at_other byte (record { quote = q; backslash = s; feed = f; ampersand = is })

      feed : (byte == QUOTE) ≡ false → (byte == BACKSLASH) ≡ false → (b : Bool)
          → (byte == LINE_FEED) ≡ b → P byte
      feed q s true is = at_known byte LINE_FEED is at_feed
      feed q s false is = ampersand q s is (byte == AMPERSAND) refl

      backslash : (byte == QUOTE) ≡ false → (b : Bool) → (byte == BACKSLASH) ≡ b → P byte
      backslash q true is = at_known byte BACKSLASH is at_backslash
      backslash q false is = feed q is (byte == LINE_FEED) refl

      quote : (b : Bool) → (byte == QUOTE) ≡ b → P byte
      quote true is = at_known byte QUOTE is at_quote
      quote false is = backslash is (byte == BACKSLASH) refl
