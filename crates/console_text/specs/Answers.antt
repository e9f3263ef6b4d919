-- Which text says which answer.
use Rattle.std.specs.Prelude.{ℕ, List, [], ◌∷◌, ◌++◌, Some, None, codes, decimal}
use Rattle.console_text.specs.Words.{after_spaces}
use Rattle.console_text.specs.declared.answers.Answer.{Answer}
use Rattle.console_text.specs.declared.answers.Answer.TheVariants.{Done, Steps, Told, Share, Nearest, Denied, DeniedAt}

-- the text of an answer, with no line end
abbrev pub rendered : Answer → List ℕ
rendered Done = codes "ok"
rendered (Steps steps) = codes "ok" ++ after_spaces (decimal steps ∷ [])
rendered (Told count cells) = decimal count ++ after_spaces (decimal cells ∷ [])
rendered (Share share) = decimal share
rendered (Nearest (Some higher)) = decimal higher.place.x ++ after_spaces (decimal higher.place.y ∷ decimal higher.distance ∷ [])
rendered (Nearest None) = codes "no higher ground"
rendered (Denied number) = codes "no" ++ after_spaces (decimal number ∷ [])
rendered (DeniedAt number x y) = codes "no" ++ after_spaces (decimal number ∷ decimal x ∷ decimal y ∷ [])
