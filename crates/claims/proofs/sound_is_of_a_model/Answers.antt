-- `claims::sound_is_of_a_model` is two laws of `model`.
use Rattle.soundness.proofs.FromSound.{of_model_sound, sound_of_model}
use Rattle.claims.proofs.sound_is_of_a_model.Goals as goal

pub returns : goal.returns
returns _ = (sound_of_model, of_model_sound)
