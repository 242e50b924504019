-- What is read as a command has good text.
-- Assumes nothing.
use Prim.Native.Nat.{ℕ}
use native.Mathlib.Omega.{arith}
use mathlib.Core.Bool.{Bool, true, false, cond}
use mathlib.Core.List.{List, [], ◌∷◌}
use mathlib.Core.Path.{◌≡◌, refl, ap, subst, ◌∙◌}
use lib.Dec.{eqb, leb}
use lib.ListN.{length, drop}
use Rattle.errno.specs.Outcome.{Outcome, granted, refused}
use Rattle.errno.specs.declared.Errno.{Errno}
use Rattle.errno.specs.declared.Errno.TheVariants.{Einval}
use Rattle.mask.specs.Bits.{Bits, no_bits, included, excluded}
use Rattle.digits.specs.Digits.{body, starts_hex}
use Rattle.number.specs.Text.{number_rule, number_text}
use Rattle.masktext.specs.Text.{hex_mask, signed, item, and_then, items, parts, mask_text}
use Rattle.rules.specs.declared.Id.{Id}
use Rattle.rules.specs.declared.Kind.{Kind}
use Rattle.rules.specs.Queues.{most_moves}
use Rattle.model.specs.Steps.{Command, create, remove, open_it, close_it, assign, unassign, set_apmask, set_aqmask, configure}
use Rattle.encoding.specs.Encoding.{Request, command, move, sweep}
use Rattle.split.specs.Cut.{cut, holds}
use Rattle.hexbytes.specs.HexBytes.{id_text}
use Rattle.configtext.specs.ConfigText.{when_good, config_text}
use Rattle.wordtext.specs.Words.{is, bad, kind_text, byte_text}
use Rattle.linewords.specs.Requests.{for_id, for_number, by_words}
use Rattle.linetext.specs.Lines.{piece_request, line_request}
use Rattle.linetext.specs.Texts.{Good, GoodText, OnlyGood}

-- a refusal is no request
not_granted : {A : Type 0} {e : Errno} {a : A} → refused e ≡ granted a → ⊥
not_granted h = let z : ◌≡◌ {A = ℕ} 0 1 = cc in omega arith

-- ---- a mask's text is good on any old mask, or on none

signed_any : (sign : ℕ) (a b : Bits) (o : Outcome ℕ) → Good (signed sign a o) → Good (signed sign b o)
unfolding signed
signed_any sign a b (refused e) g = absurd (not_granted g.1)
signed_any sign a b (granted k) g = go (eqb sign 43) (eqb sign 45) g
  where
    go : (p m : Bool) → Good (cond p (granted (included k a)) (cond m (granted (excluded k a)) (refused Einval)))
        → Good (cond p (granted (included k b)) (cond m (granted (excluded k b)) (refused Einval)))
    go true m h = (included k b, refl)
    go false true h = (excluded k b, refl)
    go false false h = absurd (not_granted h.1)

item_any : (a b : Bits) (p : List ℕ) → Good (item a p) → Good (item b p)
unfolding item
item_any a b [] g = absurd (not_granted g.1)
item_any a b (sign ∷ n) g = signed_any sign a b (number_rule 255 n) g

then_any : (f : Bits → Outcome Bits) (o p : Outcome Bits) → (Good o → Good p) → ((m n : Bits) → Good (f m) → Good (f n)) → Good (and_then o f) → Good (and_then p f)
unfolding and_then
then_any f (refused e) p h k g = absurd (not_granted g.1)
then_any f (granted m) p h k g =
    let n = h (m, refl) in
    let r = k m n.0 g in
    (r.0, ap (λ (z : Outcome Bits). and_then z f) n.1 ∙ r.1)

items_any : (ps : List (List ℕ)) (a b : Bits) → Good (items a ps) → Good (items b ps)
unfolding items
items_any [] a b g = (b, refl)
items_any (p ∷ ps) a b g = then_any (λ n. items n ps) (item a p) (item b p) (item_any a b p) (λ m n. items_any ps m n) g

mask_any : (t : List ℕ) (a b : Bits) → Good (mask_text t a) → Good (mask_text t b)
unfolding mask_text
mask_any t a b g = go (starts_hex (body t)) g
  where
    go : (h : Bool) → Good (cond h (hex_mask (drop 2 (body t))) (items a (parts (body t)))) → Good (cond h (hex_mask (drop 2 (body t))) (items b (parts (body t))))
    go true x = x
    go false x = items_any (parts (body t)) a b x

-- ---- each word

-- what comes of good text
when_any : {A : Type 0} (o : Outcome A) (f : A → Outcome Request) → ((a : A) → o ≡ granted a → OnlyGood (f a)) → OnlyGood (when_good o f)
unfolding when_good
when_any (granted a) f h = h a refl
when_any (refused e) f h = λ c q. absurd (not_granted q)

-- one of two
cond_any : (b : Bool) (o p : Outcome Request) → OnlyGood o → OnlyGood p → OnlyGood (cond b o p)
cond_any true o p h k = h
cond_any false o p h k = k

bad_any : OnlyGood bad
bad_any c q = absurd (not_granted q)

-- a command whose text is good
command_any : (d : Command) → GoodText d → OnlyGood (granted (command d))
command_any d g c q = let e : d ≡ c = cc in subst GoodText e g

id_any : (x : List ℕ) (f : Id → Command) → ((i : Id) → GoodText (f i)) → OnlyGood (for_id x f)
id_any x f h = when_any (id_text x) (λ i. granted (command (f i))) (λ i e. command_any (f i) (h i))

number_any : (x y z : List ℕ) (f : Kind → Id → List ℕ → Command) → ((k : Kind) (i : Id) → Good (number_text z) → GoodText (f k i z)) → OnlyGood (for_number x y z f)
number_any x y z f h =
    when_any (id_text x) _ (λ i e. when_any (kind_text y) _ (λ k q. when_any (number_text z) (λ n. granted (command (f k i z))) (λ n r. command_any (f k i z) (h k i (n, r)))))

words_any : (ws : List (List ℕ)) → OnlyGood (by_words ws)
unfolding by_words GoodText
words_any [] = bad_any
words_any (w ∷ []) = cond_any (is w "sweep") (granted (sweep most_moves)) bad (λ c q. absurd (no_sweep q)) bad_any
  where
    no_sweep : {c : Command} → granted (sweep most_moves) ≡ granted (command c) → ⊥
    no_sweep q = let z : ◌≡◌ {A = ℕ} 0 1 = cc in omega arith
words_any (w ∷ x ∷ []) =
    cond_any (is w "create") _ _ (id_any x create (λ i. tt))
    (cond_any (is w "remove") _ _ (id_any x remove (λ i. tt))
    (cond_any (is w "open") _ _ (id_any x open_it (λ i. tt))
    (cond_any (is w "close") _ _ (id_any x close_it (λ i. tt))
    (cond_any (is w "apmask") _ _ (when_any (mask_text x no_bits) _ (λ m e. command_any (set_apmask x) (λ old. mask_any x no_bits old (m, e))))
    (cond_any (is w "aqmask") _ _ (when_any (mask_text x no_bits) _ (λ m e. command_any (set_aqmask x) (λ old. mask_any x no_bits old (m, e)))) bad_any)))))
words_any (w ∷ x ∷ y ∷ []) =
    cond_any (is w "move") _ _ (when_any (byte_text x) _ (λ a e. when_any (byte_text y) _ (λ d q c r. absurd (no_move r)))) bad_any
  where
    no_move : {a d : ℕ} {c : Command} → granted (move a d) ≡ granted (command c) → ⊥
    no_move q = let z : ◌≡◌ {A = ℕ} 0 1 = cc in omega arith
words_any (w ∷ x ∷ y ∷ z ∷ []) =
    cond_any (is w "assign") _ _ (number_any x y z assign (λ k i g. g)) (cond_any (is w "unassign") _ _ (number_any x y z unassign (λ k i g. g)) bad_any)
words_any (w ∷ x ∷ y ∷ z ∷ t ∷ ts) =
    cond_any (is w "config") _ _ (when_any (config_text (x ∷ y ∷ z ∷ t ∷ ts)) _ (λ c e. command_any (configure c) tt)) bad_any

pub line_any : (line : List ℕ) → OnlyGood (line_request line)
unfolding line_request piece_request
line_any line = cond_any (holds 10 line) bad _ bad_any (cond_any (leb (length line) 1024) (by_words (cut 32 line)) bad (words_any (cut 32 line)) bad_any)
