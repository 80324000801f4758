-- The profile of trials.
use Rattle.std.specs.Prelude.{ℕ, List, codes}

-- its text: points, lines and areas of what a generated town has, at zooms 10 to 12
unfoldable pub trial_text : List ℕ
trial_text = codes "format = 1\nname = 'trial'\nminzoom = 10\nmaxzoom = 12\nlayer = [{ id = 'points' }, { id = 'lines' }, { id = 'areas' }]\n[[rule]]\nlayer = 'points'\nkind = 'point'\nwhen = ['amenity']\nattributes = [{ key = 'amenity' }]\n[[rule]]\nlayer = 'lines'\nkind = 'line'\nwhen = ['highway']\nattributes = [{ key = 'highway' }, { key = 'name' }]\n[[rule]]\nlayer = 'areas'\nkind = 'area'\nwhen = ['building']\nattributes = [{ name = 'class', value = 'building' }]\n[[rule]]\nlayer = 'areas'\nkind = 'area'\nwhen = ['landuse']\nattributes = [{ key = 'landuse' }]\n"
