-- Laws of `write` and `Put`: text after text is one text (`write-append`, `both`), so that calls one after the other put what is joined
-- (`then2`, `then3`, `then4`); nothing is put by a call that is not made (`nothing`); `words_more` numbers are those before and one more.
-- Assumes nothing.
use Prim.Native.Nat.{ℕ}
use mathlib.Core.Path.{◌≡◌, refl, sym, ◌∙◌, ap, subst}
use mathlib.Core.List.{List, [], ◌∷◌, ◌++◌, append-nil, append_assoc}
use Rattle.lines.specs.Out.{Out, write, joined}
use Rattle.lines.specs.Sheet.{out_of, Put}
use Rattle.lines.specs.declared.sheet.Sheet.{Sheet}
use Rattle.lines.specs.Line.{word_of, words_of}

pub write-append : (a b : List ℕ) (o : Out) → write o (a ++ b) ≡ write (write o a) b
unfolding write
write-append [] b o = refl
write-append (x ∷ a) b o = write-append a b _

pub nothing : {s : Sheet} → Put s [] s
unfolding write
nothing = record { same = refl; wrote = record { is = refl } }

-- a text that equals another
pub same_text : {s t : Sheet} {a b : List ℕ} → a ≡ b → Put s a t → Put s b t
same_text {s} {t} e w = subst (λ (x : List ℕ). Put s x t) e w

-- one text and another behind it
pub both : {s t u : Sheet} {a b : List ℕ} → Put s a t → Put t b u → Put s (a ++ b) u
both {s} {t} {u} {a} {b} e f =
    record {
      same = f.same ∙ e.same;
      wrote = record { is = f.wrote.is ∙ ap (λ (x : Out). write x b) e.wrote.is ∙ sym (write-append a b (out_of s)) };
    }

-- the last text, and one more before it
pub last : {s t : Sheet} {a : List ℕ} → Put s a t → Put s (joined (a ∷ [])) t
unfolding joined
last {s} {t} {a} e = both {a = a} e nothing

more : (ts : List (List ℕ)) {s t u : Sheet} {a : List ℕ} → Put s a t → Put t (joined ts) u → Put s (joined (a ∷ ts)) u
unfolding joined
more ts {s} {t} {u} {a} e f = both {a = a} e f

pub then2 : {s t u : Sheet} {a b : List ℕ} → Put s a t → Put t b u → Put s (joined (a ∷ b ∷ [])) u
then2 {s} {t} {u} {a} {b} e f = more (b ∷ []) e (last f)

pub then3 : {s t u v : Sheet} {a b c : List ℕ} → Put s a t → Put t b u → Put u c v → Put s (joined (a ∷ b ∷ c ∷ [])) v
then3 {s} {t} {u} {v} {a} {b} {c} e f g = more (b ∷ c ∷ []) e (then2 f g)

pub then4 : {s t u v w : Sheet} {a b c d : List ℕ} → Put s a t → Put t b u → Put u c v → Put v d w
    → Put s (joined (a ∷ b ∷ c ∷ d ∷ [])) w
then4 {s} {t} {u} {v} {w} {a} {b} {c} {d} e f g h = more (b ∷ c ∷ d ∷ []) e (then3 f g h)

pub words_more : (ns : List ℕ) (n : ℕ) → words_of (ns ++ (n ∷ [])) ≡ words_of ns ++ word_of n
unfolding words_of joined
words_more [] n = append-nil (word_of n)
words_more (m ∷ ns) n = ap (λ (t : List ℕ). word_of m ++ t) (words_more ns n) ∙ sym (append_assoc (word_of m) (words_of ns) (word_of n))
