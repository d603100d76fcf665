-- The lines that answers are written as, without their line feed.
use Rattle.std.specs.Prelude.{ℕ, List, [], ◌∷◌, ◌++◌, codes, decimal}
use Rattle.refusals.specs.Refusals.{layer_text, by_layer}
use Rattle.refusals.specs.declared.layer.Layer.TheVariants.{Script}
use Rattle.refusals.specs.declared.refusal.Refusal.{Refusal}
use Rattle.script.specs.declared.answer.Answer.{Answer}
use Rattle.script.specs.declared.answer.Answer.TheVariants.{Done, Place, Ready, Drawn, Base, Refused}
use Rattle.script.specs.Texts.{fields_text, option_text, refused_text}

abbrev pub refusal_text : Refusal → List ℕ
refusal_text r = refused_text (decimal r.number) (layer_text r.layer) (option_text r.node) (option_text r.address)

abbrev pub ok_text : List ℕ → List ℕ
ok_text numbers = codes "ok" ++ fields_text numbers

abbrev pub answer_text : Answer → List ℕ
answer_text Done = ok_text []
answer_text (Place place) = ok_text (place ∷ [])
answer_text (Ready places) = ok_text (places ∷ [])
answer_text (Drawn place address word frame instruction) = ok_text (place ∷ address ∷ word ∷ frame ∷ instruction ∷ [])
answer_text (Base base) = ok_text (base ∷ [])
answer_text (Refused r) = refusal_text r

-- a refusal by the script itself names no node and no address
abbrev pub of_script : ℕ → Refusal
of_script n = by_layer Script n
