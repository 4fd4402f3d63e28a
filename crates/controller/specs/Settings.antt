-- The stored registers of the code as the rules have them.
use Rattle.std.specs.Prelude.{[], ◌∷◌}
use Rattle.model.specs.Controller.{Settings as ModelSettings}
use Rattle.frame.specs.Filter.{addresses}
use Rattle.controller.specs.declared.settings.Settings.{Settings}

-- all of them, as the rules have them
abbrev pub settings : Settings → ModelSettings
settings s = record {
  setting = s.setting;
  idle_wait = s.idle_wait_len;
  tx_wait = s.tx_wait_len;
  filters = addresses s.filters;
  dividers = s.div_ls_l ∷ s.div_ls_h ∷ s.div_hs_l ∷ s.div_hs_h ∷ [];
  mask = s.int_mask;
}
