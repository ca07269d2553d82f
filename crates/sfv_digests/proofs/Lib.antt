mod Headers
